-- The one way in which a text is that of several vdevs.
use Rattle.std.proofs.Common.{◌≡◌, ℕ, zero, suc, ◌+◌, ◌*◌, ◌<◌, ◌≤◌, List, [], ◌∷◌, ◌++◌, length, refl, sym, ◌∙◌, ap, subst, arith, length-append}
use Rattle.std.proofs.lemmas.List.{append_assoc}
use Rattle.std.proofs.lemmas.List.Sums.{sum_by-cons}
use Rattle.std.specs.List.{All}
use Rattle.zms_units.specs.declared.places.VdevRow.{VdevRow}
use Rattle.vdev_map.specs.Limits.{IsVdevCount, EachRow, AreVdevs}
use Rattle.vdev_map.specs.Numbers.{row_at, metaslabs_in}
use Rattle.cmd_text.specs.Reading.{Lacks}
use Rattle.cmd_text.proofs.Bytes.{lacks_no_cut, cut_once}
use Rattle.vdev_text.specs.Specs.{IsVdev, vdev_text, spec_text, IsSpec}
use Rattle.vdev_text.specs.Reading.{IsRead, AreFew, Adds, Refuses}
use Rattle.vdev_text.proofs.OneVdev.{vdev_lacks, vdev_once}

-- each of no vdevs, of one more in front, of the first, and of the rest

none_of : (P : VdevRow → Type 0) → All P []
none_of P k d within = absurd (omega (arith, within))

one_more_of : (P : VdevRow → Type 0) (row : VdevRow) (rows : List VdevRow) → P row → All P rows → All P (row ∷ rows)
one_more_of P row rows is each zero d within = is
one_more_of P row rows is each (suc k) d within = each k d (omega (arith, within))

first_of : (P : VdevRow → Type 0) (row : VdevRow) (rows : List VdevRow) → All P (row ∷ rows) → P row
first_of P row rows each = each 0 row (omega arith)

rest_of : (P : VdevRow → Type 0) (row : VdevRow) (rows : List VdevRow) → All P (row ∷ rows) → All P rows
rest_of P row rows each k d within = each (suc k) d (omega (arith, within))

-- the vdevs of a text begin with some, and the rest of the text is that of the others
pub record Goes (rows : List VdevRow) (rest : List ℕ) (all : List VdevRow) : Type 0 where
  pub more : List VdevRow
  pub split : all ≡ rows ++ more
  pub some : 1 ≤ length more
  pub each : All IsVdev more
  pub text_is : spec_text more ≡ rest

-- a text was read up to its rest: whatever the rest is the text of stands behind these vdevs, and the vdevs of the text begin
-- with these
pub record SoFar (text rest : List ℕ) (rows : List VdevRow) : Type 0 where
  pub few : length rows ≤ 16
  pub each : All IsVdev rows
  pub front : (more : List VdevRow) → 1 ≤ length more → spec_text more ≡ rest → spec_text (rows ++ more) ≡ text
  pub only : (all : List VdevRow) → IsRead text all → Goes rows rest all

pub nothing_yet : (text : List ℕ) → SoFar text text []
nothing_yet text =
    record {
      few = omega arith;
      each = none_of IsVdev;
      front = λ more some is. is;
      only = λ all is. record { more = all; split = refl; some = is.count.least; each = is.each; text_is = is.text_is };
    }

all_push : (rows : List VdevRow) (row : VdevRow) → All IsVdev rows → IsVdev row → All IsVdev (rows ++ row ∷ [])
all_push [] row each is = one_more_of IsVdev row [] is (none_of IsVdev)
all_push (r ∷ rows) row each is = one_more_of IsVdev r (rows ++ row ∷ []) (first_of IsVdev r rows each) (all_push rows row (rest_of IsVdev r rows each) is)

-- the first of several vdevs
first_text : (row : VdevRow) (more : List VdevRow) → 1 ≤ length more → spec_text (row ∷ more) ≡ vdev_text row ++ (44 ∷ spec_text more)
first_text row [] some = absurd (omega (arith, some))
first_text row (r ∷ more) some = refl

-- of a rest that is cut at its first comma
pub record GoesOn (one behind : List ℕ) (more : List VdevRow) : Type 0 where
  pub row : VdevRow
  pub is : IsVdev row
  pub row_text : vdev_text row ≡ one
  pub later : List VdevRow
  pub split : more ≡ row ∷ later
  pub some : 1 ≤ length later
  pub each : All IsVdev later
  pub text_is : spec_text later ≡ behind

goes_on : (one behind rest : List ℕ) (more : List VdevRow) → 1 ≤ length more → All IsVdev more → spec_text more ≡ rest
    → one ++ (44 ∷ behind) ≡ rest → Lacks 44 one → GoesOn one behind more
goes_on one behind rest [] some each same cut lacks = absurd (omega (arith, some))
goes_on one behind rest (r ∷ []) some each same cut lacks = absurd (lacks_no_cut 44 one behind (vdev_text r) (vdev_lacks r (first_of IsVdev r [] each)) (cut ∙ sym same))
goes_on one behind rest (r ∷ (s ∷ more)) some each same cut lacks =
    let both : (vdev_text r ≡ one) × (spec_text (s ∷ more) ≡ behind) =
    cut_once 44 (vdev_text r) (spec_text (s ∷ more)) one behind (vdev_lacks r (first_of IsVdev r (s ∷ more) each)) lacks (same ∙ sym cut) in
    record {
      row = r;
      is = first_of IsVdev r (s ∷ more) each;
      row_text = both.0;
      later = s ∷ more;
      split = refl;
      some = omega arith;
      each = rest_of IsVdev r (s ∷ more) each;
      text_is = both.1;
    }

-- and of one without a comma
pub record IsLast (rest : List ℕ) (more : List VdevRow) : Type 0 where
  pub row : VdevRow
  pub is : IsVdev row
  pub row_text : vdev_text row ≡ rest
  pub split : more ≡ row ∷ []

is_last : (rest : List ℕ) (more : List VdevRow) → 1 ≤ length more → All IsVdev more → spec_text more ≡ rest → Lacks 44 rest → IsLast rest more
is_last rest [] some each same lacks = absurd (omega (arith, some))
is_last rest (r ∷ []) some each same lacks = record { row = r; is = first_of IsVdev r [] each; row_text = same; split = refl }
is_last rest (r ∷ (s ∷ more)) some each same lacks = absurd (lacks_no_cut 44 (vdev_text r) (spec_text (s ∷ more)) rest lacks same)

module _ (text rest : List ℕ) (rows : List VdevRow) (so : SoFar text rest rows) where
  -- one vdev more, behind which a comma stands
  pub so_far_more : (one behind : List ℕ) (now : List VdevRow) → one ++ (44 ∷ behind) ≡ rest → Lacks 44 one → Adds rows one now → SoFar text behind now
  so_far_more one behind now cut lacks adds =
      subst (SoFar text behind) (sym adds.new_is)
      (record {
        few = subst (λ (l : List VdevRow). length l ≤ 16) adds.new_is adds.few;
        each = all_push rows adds.row so.each adds.is;
        front = λ more some is.
            ap spec_text (append_assoc rows (adds.row ∷ []) more)
            ∙ so.front (adds.row ∷ more) (omega arith)
            (first_text adds.row more some ∙ ap (λ l. l ++ (44 ∷ spec_text more)) adds.text_is ∙ ap (λ l. one ++ (44 ∷ l)) is ∙ cut);
        only = λ all read. went all (so.only all read);
      })
    where
      went : (all : List VdevRow) → Goes rows rest all → Goes (rows ++ adds.row ∷ []) behind all
      went all goes =
          let on : GoesOn one behind goes.more = goes_on one behind rest goes.more goes.some goes.each goes.text_is cut lacks in
          let same : on.row ≡ adds.row = vdev_once on.row adds.row on.is adds.is (on.row_text ∙ sym adds.text_is) in
          record {
            more = on.later;
            split = goes.split ∙ ap (λ l. rows ++ l) on.split ∙ ap (λ r. rows ++ (r ∷ on.later)) same ∙ sym (append_assoc rows (adds.row ∷ []) on.later);
            some = on.some;
            each = on.each;
            text_is = on.text_is;
          }

  -- no vdevs, where what stands before a comma is refused
  pub refused_more : (one behind : List ℕ) → one ++ (44 ∷ behind) ≡ rest → Lacks 44 one → Refuses rows one → (all : List VdevRow) → IsRead text all → ⊥
  refused_more one behind cut lacks refuses all read =
      let goes = so.only all read in
      let on : GoesOn one behind goes.more = goes_on one behind rest goes.more goes.some goes.each goes.text_is cut lacks in
      let full : 16 ≤ length rows = refuses on.row on.is on.row_text in
      let count : length all ≡ length rows + length goes.more = ap length goes.split ∙ length-append rows goes.more in
      omega (arith, full, count, goes.some, read.count.most)

  -- the last vdev
  pub read_last : (now : List VdevRow) → Lacks 44 rest → Adds rows rest now → IsRead text now
  read_last now lacks adds =
      let count : length now ≡ length rows + 1 = ap length adds.new_is ∙ length-append rows (adds.row ∷ []) in
      record {
        count = record { least = omega (arith, count); most = adds.few };
        each = subst (All IsVdev) (sym adds.new_is) (all_push rows adds.row so.each adds.is);
        text_is = ap spec_text adds.new_is ∙ so.front (adds.row ∷ []) (omega arith) adds.text_is;
      }

  pub only_last : (now : List VdevRow) → Lacks 44 rest → Adds rows rest now → (all : List VdevRow) → IsRead text all → now ≡ all
  only_last now lacks adds all read =
      let goes = so.only all read in
      let last : IsLast rest goes.more = is_last rest goes.more goes.some goes.each goes.text_is lacks in
      let same : adds.row ≡ last.row = vdev_once adds.row last.row adds.is last.is (adds.text_is ∙ sym last.row_text) in
      adds.new_is ∙ ap (λ r. rows ++ (r ∷ [])) same ∙ ap (λ l. rows ++ l) (sym last.split) ∙ sym goes.split

  pub refused_last : Lacks 44 rest → Refuses rows rest → (all : List VdevRow) → IsRead text all → ⊥
  refused_last lacks refuses all read =
      let goes = so.only all read in
      let last : IsLast rest goes.more = is_last rest goes.more goes.some goes.each goes.text_is lacks in
      let full : 16 ≤ length rows = refuses last.row last.is last.row_text in
      let count : length all ≡ length rows + length goes.more = ap length goes.split ∙ length-append rows goes.more in
      omega (arith, full, count, goes.some, read.count.most)

-- the limits of a pool are those of each vdev and those on all together

each_row : (P : VdevRow → Type 0) (Q : VdevRow → Type 0) (rows : List VdevRow) → ((row : VdevRow) → P row → Q row) → All P rows → EachRow Q rows
each_row P Q [] gives all v within = absurd (omega (arith, within))
each_row P Q (r ∷ rows) gives all zero within = gives r (first_of P r rows all)
each_row P Q (r ∷ rows) gives all (suc v) within = each_row P Q rows gives (rest_of P r rows all) v (omega (arith, within))

pub spec_of : (text : List ℕ) (rows : List VdevRow) → IsRead text rows → AreFew rows → IsSpec text rows
spec_of text rows read few =
    record {
      vdevs = record {
        count = read.count;
        shifts = each_row IsVdev _ rows (λ row is. is.shift) read.each;
        units = each_row IsVdev _ rows (λ row is. is.units) read.each;
        metaslabs = each_row IsVdev _ rows (λ row is. is.metaslabs.low) read.each;
        units_in_all = few.units;
        metaslabs_in_all = few.metaslabs;
        normal = few.normal;
      };
      text_is = read.text_is;
    }

each_vdev : (rows : List VdevRow) → ((v : ℕ) → v < length rows → (row_at rows v).metaslabs ≤ 1024 → IsVdev (row_at rows v)) → metaslabs_in rows ≤ 1024 → All IsVdev rows
each_vdev [] is few = none_of IsVdev
each_vdev (r ∷ rows) is few =
    let sum : metaslabs_in (r ∷ rows) ≡ r.metaslabs * 1 + metaslabs_in rows = sum_by-cons (λ (row : VdevRow). row.metaslabs * 1) r rows in
    one_more_of IsVdev r rows (is 0 (omega arith) (omega (arith, few, sum))) (each_vdev rows (λ v within. is (suc v) (omega (arith, within))) (omega (arith, few, sum)))

pub read_of : (text : List ℕ) (rows : List VdevRow) → IsSpec text rows → IsRead text rows
read_of text rows is =
    record {
      count = is.vdevs.count;
      each =
          each_vdev rows
          (λ v within few. record { shift = is.vdevs.shifts v within; units = is.vdevs.units v within; metaslabs = record { low = is.vdevs.metaslabs v within; high = few } })
          is.vdevs.metaslabs_in_all;
      text_is = is.text_is;
    }

pub few_of : (text : List ℕ) (rows : List VdevRow) → IsSpec text rows → AreFew rows
few_of text rows is = record { units = is.vdevs.units_in_all; metaslabs = is.vdevs.metaslabs_in_all; normal = is.vdevs.normal }

-- a text asks for one list of vdevs

rows_once : (one two : List VdevRow) → All IsVdev one → All IsVdev two → 1 ≤ length one → 1 ≤ length two → spec_text one ≡ spec_text two → one ≡ two
rows_once [] two each each' some some' same = absurd (omega (arith, some))
rows_once (r ∷ []) two each each' some some' same =
    let own : IsVdev r = first_of IsVdev r [] each in
    let last : IsLast (vdev_text r) two = is_last (vdev_text r) two some' each' (sym same) (vdev_lacks r own) in
    ap (λ row. row ∷ []) (vdev_once r last.row own last.is (sym last.row_text)) ∙ sym last.split
rows_once (r ∷ (s ∷ more)) two each each' some some' same =
    let own : IsVdev r = first_of IsVdev r (s ∷ more) each in
    let on : GoesOn (vdev_text r) (spec_text (s ∷ more)) two = goes_on (vdev_text r) (spec_text (s ∷ more)) (spec_text two) two some' each' refl same (vdev_lacks r own) in
    let later : s ∷ more ≡ on.later = rows_once (s ∷ more) on.later (rest_of IsVdev r (s ∷ more) each) on.each (omega arith) on.some (sym on.text_is) in
    ap (λ row. row ∷ (s ∷ more)) (vdev_once r on.row own on.is (sym on.row_text)) ∙ ap (λ l. on.row ∷ l) later ∙ sym on.split

pub spec_once : (text : List ℕ) (one two : List VdevRow) → IsSpec text one → IsSpec text two → one ≡ two
spec_once text one two is is' =
    let first : IsRead text one = read_of text one is in
    let second : IsRead text two = read_of text two is' in
    rows_once one two first.each second.each first.count.least second.count.least (is.text_is ∙ sym is'.text_is)

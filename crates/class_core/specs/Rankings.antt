-- What a ranking of metaslabs has.
use Rattle.std.specs.Prelude.{◌≡◌, ℕ, ◌<◌, ◌==◌, ◌&&◌, Bool, true, false, List, Option, MatchOption, slice_index}
use Rattle.std.specs.Bool.{Decides}
use Rattle.std.specs.declared.cmp.Ordering.{Ordering}
use Rattle.std.specs.declared.ops.Bound.{Bound}
use Rattle.std.specs.declared.ops.Bound.TheVariants.{Excluded, Unbounded}
use Rattle.std.specs.Ordering.{nat_cmp, ordering_then, is_gt}
use Rattle.std.specs.BTreeSet.{contains}
use Rattle.std.specs.BTreeMap.Range.{IsInRange}
use Rattle.ms_model.specs.declared.notes.Got.{Got}
use Rattle.ms_model.specs.declared.notes.Start.{Start}
use Rattle.ms_model.specs.declared.notes.Start.TheVariants.{Active, Top, After}
use Rattle.class_core.specs.declared.ranking.Rank.{Rank}
use Rattle.class_core.specs.declared.ranking.Ranking.{Ranking}

-- how ranks are ordered: by falling weight, and then by rising index
abbrev pub rank_cmp : Rank → Rank → Ordering
rank_cmp a b = ordering_then (nat_cmp b.weight.0 a.weight.0) (nat_cmp a.index b.index)

abbrev pub rank_of : Got → Rank
rank_of g = record { weight = record { 0 = g.weight }; index = g.index }

-- does it have this metaslab with this weight?
abbrev pub has : Ranking → Got → Bool
has r g = contains rank_cmp r.set (rank_of g)

abbrev pub is_same : Got → Got → Bool
is_same a b = (a.weight == b.weight) && (a.index == b.index)

-- from where on a start looks
abbrev pub from_of : Start → Bound Rank
from_of Active = Unbounded
from_of Top = Unbounded
from_of (After weight index) = Excluded (record { weight = record { 0 = weight }; index = index })

-- a rank that it has and that is from a bound on
pub record IsFrom (r : Ranking) (from : Bound Rank) (k : Rank) : Type 0 where
  pub inside : IsInRange rank_cmp from Unbounded k
  pub has : contains rank_cmp r.set k ≡ true

-- the first of these
pub record IsLeastFrom (r : Ranking) (from : Bound Rank) (k : Rank) : Type 0 where
  pub is : IsFrom r from k
  pub least : (other : Rank) → IsFrom r from other → is_gt (rank_cmp k other) ≡ false

abbrev pub IsFirstIn : Ranking → Bound Rank → Option Rank → Type 0
IsFirstIn r from got = MatchOption got ((k : Rank) → IsFrom r from k → ⊥) (IsLeastFrom r from)

-- it has just the metaslabs of the indices below n, with these weights
abbrev pub HasBelow : ℕ → List ℕ → Ranking → Type 0
HasBelow n weights r = (g : Got) → Decides (has r g) ((g.index < n) × (g.weight ≡ slice_index weights g.index))

-- How the parts of a report end, and what they leave of the counts of faults.
use Rattle.std.proofs.Common.{◌≡◌, ◌+◌, ◌<◌, ℕ, List, ◌++◌, Result, Ok, Err, refl, sym, ◌∙◌, ap, append_assoc, subst}
use Rattle.std.specs.Prelude.{OnOk, IfErr, IsErrAnd, IsErrOf}
use Rattle.zms_dev.specs.Causes.{HasCause, one_more}
use Rattle.zms_dev.specs.Disk.{DiskState, Tells, bytes_of}
use Rattle.zms_dev.specs.Prints.{Prints, HandsOn}
use Rattle.zms_dev.specs.Runs.{Untouched}
use Rattle.zms_dev.specs.Stream.{SinkState}
use Rattle.zms_dev.specs.declared.failed.Failed.{Failed}
use Rattle.zms_dev.proofs.Prints.{took_first, took_more, prints_all, hands_on}
use Rattle.zms_units.specs.declared.places.MsId.{MsId}
use Rattle.vdev_map.specs.Numbers.{IsIn, number_of}
use Rattle.vdev_map.specs.declared.table.Table.{Table}
use Rattle.meta_store.specs.Causes.{ShowsDamage}
use Rattle.meta_store.specs.Finding.{IsFoundFault}
use Rattle.meta_store.specs.Groups.{IsSound}
use Rattle.meta_store.specs.Words.{row_of, units_of, words_in}
use Rattle.meta_store.specs.declared.causes.FoundFault.{FoundFault}
use Rattle.meta_store.specs.declared.causes.FoundFault.TheVariants.{Failed as FoundFailed, Memory as FoundMemory, Damaged as FoundDamaged}
use Rattle.meta_store.proofs.Handing.{handed_on}
use Rattle.meta_store.proofs.PartByPart.{SoundBelow, sound_more}
use Rattle.zdb_report.specs.Faults.{of_found, IsFaultAt, IsReportFault, HaveFaulted}
use Rattle.zdb_report.specs.declared.stats.MetaslabStats.{MetaslabStats}
use Rattle.zdb_report.specs.declared.faults.ReportFault.{ReportFault}
use Rattle.zdb_report.specs.declared.faults.ReportFault.TheVariants.{Write, Device, Damaged, Memory}

-- units that were not found
pub fault_at : (image : List ℕ) (table : Table) (number : ℕ) (fault : FoundFault) → (id : MsId) → IsIn table.vdevs id → number_of table.vdevs id ≡ number → IsFoundFault image table id fault
    → IsFaultAt image table number (of_found fault)
fault_at image table number FoundFailed id in_ is shows = tt
fault_at image table number FoundMemory id in_ is shows = tt
fault_at image table number (FoundDamaged other damage) id in_ is shows =
    subst (λ (i : MsId). IsIn table.vdevs i × (number_of table.vdevs i ≡ number) × ShowsDamage (words_in image table i) (units_of table i) (row_of table i).held damage) (sym shows.0) (in_, is, shows.1)

pub found_faulted : (low high sink : ℕ) (fault : FoundFault) → ((fault ≡ FoundFailed → ⊥) → high ≡ low) → (fault ≡ FoundFailed → high ≡ one_more low) → HaveFaulted low high sink sink (Err (of_found fault))
found_faulted low high sink FoundFailed steady failed = record { device_steady = λ no. absurd (no refl); device_failed = λ _. failed refl; sink_steady = λ _. refl; sink_failed = λ e. absurd (cc) }
found_faulted low high sink FoundMemory steady failed = record { device_steady = λ _. steady (λ e. cc); device_failed = λ e. absurd (cc); sink_steady = λ _. refl; sink_failed = λ e. absurd (cc) }
found_faulted low high sink (FoundDamaged id damage) steady failed = record { device_steady = λ _. steady (λ e. cc); device_failed = λ e. absurd (cc); sink_steady = λ _. refl; sink_failed = λ e. absurd (cc) }

pub write_faulted : (low high sink now : ℕ) → high ≡ low → now ≡ one_more sink → HaveFaulted low high sink now (Err Write)
write_faulted low high sink now same more = record { device_steady = λ _. same; device_failed = λ e. absurd (cc); sink_steady = λ no. absurd (no refl); sink_failed = λ _. more }

pub none_faulted : (low high sink now : ℕ) → high ≡ low → now ≡ sink → HaveFaulted low high sink now (Ok tt)
none_faulted low high sink now same steady = record { device_steady = λ _. same; device_failed = λ e. absurd (cc); sink_steady = λ _. steady; sink_failed = λ e. absurd (cc) }

-- behind what went well
pub faulted_then : (low mid high sink between now : ℕ) (result : Result (Unit {0}) ReportFault) → mid ≡ low → between ≡ sink → HaveFaulted mid high between now result → HaveFaulted low high sink now result
faulted_then low mid high sink between now result same steady then = record {
  device_steady = λ no. then.device_steady no ∙ same;
  device_failed = λ is. then.device_failed is ∙ ap one_more same;
  sink_steady = λ no. then.sink_steady no ∙ steady;
  sink_failed = λ is. then.sink_failed is ∙ ap one_more steady;
}

-- damage of a metaslab behind sound ones is the first
pub first_fault : (image : List ℕ) (table : Table) (number : ℕ) (fault : ReportFault) → SoundBelow image table number → IsFaultAt image table number fault → IsReportFault image table fault
first_fault image table number Write below shows = tt
first_fault image table number Device below shows = tt
first_fault image table number (Damaged id damage) below shows = record {
  in_table = shows.0;
  shows = shows.2;
  before = λ other in_ lt. below other in_ (subst (λ (n : ℕ). number_of table.vdevs other < n) shows.1 lt);
}
first_fault image table number Memory below shows = tt

-- a text that was written, as the answer of a report
pub again : {E F : Type 0} (a b : SinkState) (text : List ℕ) (r : Result (Unit {0}) E) → Prints a b text r → r ≡ Ok tt → Prints {T = Unit {0}} {E = F} a b text (Ok tt)
again a b text r prints ok = prints_all a b text text tt (took_first a b text r tt prints ok) refl

-- what a `?` hands on
pub handed_faulted : (low high sink now : ℕ) (r : Result (Unit {0}) ReportFault) (fault : ReportFault) → IsErrAnd r (λ given. given ≡ fault) → HaveFaulted low high sink now (Err fault) → HaveFaulted low high sink now r
handed_faulted low high sink now (Ok x) fault given then = absurd given
handed_faulted low high sink now (Err e) fault given then = subst (λ (f : ReportFault). HaveFaulted low high sink now (Err f)) (sym given) then

pub at_ok : {T E P : Type 0} (r : Result T E) (x : T) → r ≡ Ok x → OnOk r P → P
at_ok (Ok y) x is held = held
at_ok (Err e) x is held = absurd (cc)

pub no_err : {T E : Type 0} (r : Result T E) (e : E) (x : T) → r ≡ Ok x → IsErrOf r e → ⊥
no_err (Ok y) e x is wrong = absurd (cc)
no_err (Err f) e x is wrong = absurd (cc)

if_err : {T E : Type 0} (W : E → Type 0) (r : Result T E) (e : E) → r ≡ Err e → IfErr r W → W e
if_err W (Ok x) e is held = absurd (cc)
if_err W (Err f) e is held = let same : f ≡ e = cc in subst W same held

-- why a metaslab was not written, from what was asked for it

pub not_found : (image : List ℕ) (table : Table) (number : ℕ) (r : Result MetaslabStats FoundFault) (e : FoundFault) (s : Result (Unit {0}) ReportFault)
    → IfErr r (λ fault. (id : MsId) × IsIn table.vdevs id × (number_of table.vdevs id ≡ number) × IsFoundFault image table id fault) → r ≡ Err e → IsErrAnd s (λ given. given ≡ of_found e) → IfErr s (IsFaultAt image table number)
not_found image table number r e s why is given =
    let f = if_err (λ fault. (id : MsId) × IsIn table.vdevs id × (number_of table.vdevs id ≡ number) × IsFoundFault image table id fault) r e is why in
    handed_on s (of_found e) (IsFaultAt image table number) given (fault_at image table number e f.0 f.1 f.2 f.3)

pub not_found_faulted : (low high sink : ℕ) (r : Result MetaslabStats FoundFault) (e : FoundFault) (s : Result (Unit {0}) ReportFault) → ((IsErrOf r FoundFailed → ⊥) → high ≡ low) → (IsErrOf r FoundFailed → high ≡ one_more low)
    → r ≡ Err e → IsErrAnd s (λ given. given ≡ of_found e) → HaveFaulted low high sink sink s
not_found_faulted low high sink (Ok x) e s steady failed is given = absurd (cc)
not_found_faulted low high sink (Err f) e s steady failed is given =
    let same : f ≡ e = cc in
    handed_faulted low high sink sink s (of_found e) given
    (found_faulted low high sink e (λ no. steady (λ wrong. no (let inner : f ≡ FoundFailed = cc in sym same ∙ inner))) (λ wrong. failed (ap Err (same ∙ wrong))))

pub not_written : (image : List ℕ) (table : Table) (number : ℕ) (s : Result (Unit {0}) ReportFault) → IsErrAnd s (λ given. given ≡ Write) → IfErr s (IsFaultAt image table number)
not_written image table number s given = handed_on s Write (IsFaultAt image table number) given tt

pub no_report_written : (image : List ℕ) (table : Table) (s : Result (Unit {0}) ReportFault) → IsErrAnd s (λ given. given ≡ Write) → IfErr s (IsReportFault image table)
no_report_written image table s given = handed_on s Write (IsReportFault image table) given tt

failed_more : {E : Type 0} (a b : SinkState) (text : List ℕ) (r : Result (Unit {0}) E) (e : E) → Prints a b text r → r ≡ Err e → b.faults ≡ one_more a.faults
failed_more a b text (Ok x) e prints is = absurd (cc)
failed_more a b text (Err f) e prints is = prints.cause.failed

pub not_written_faulted : {E : Type 0} (low high : ℕ) (a b : SinkState) (text : List ℕ) (r : Result (Unit {0}) E) (e : E) (s : Result (Unit {0}) ReportFault) → high ≡ low → Prints a b text r → r ≡ Err e → IsErrAnd s (λ given. given ≡ Write)
    → HaveFaulted low high a.faults b.faults s
not_written_faulted low high a b text r e s same prints is given = handed_faulted low high a.faults b.faults s Write given (write_faulted low high a.faults b.faults same (failed_more a b text r e prints is))

-- a part of the report that failed behind others
pub part_faulted : (low mid high sink between now : ℕ) (r : Result (Unit {0}) ReportFault) (e : ReportFault) (s : Result (Unit {0}) ReportFault) → mid ≡ low → between ≡ sink → HaveFaulted mid high between now r → r ≡ Err e
    → IsErrAnd s (λ given. given ≡ e) → HaveFaulted low high sink now s
part_faulted low mid high sink between now r e s same steady then is given =
    handed_faulted low high sink now s e given (faulted_then low mid high sink between now (Err e) same steady (subst (λ (x : Result (Unit {0}) ReportFault). HaveFaulted mid high between now x) is then))

pub part_damaged : (old mid : DiskState) (table rows : Table) (number : ℕ) (r : Result (Unit {0}) ReportFault) (e : ReportFault) (s : Result (Unit {0}) ReportFault) → rows ≡ table → (Tells old → Untouched old mid)
    → (Tells mid → IfErr r (IsFaultAt (bytes_of mid) rows number)) → (Tells old → SoundBelow (bytes_of old) table number) → r ≡ Err e → IsErrAnd s (λ given. given ≡ e) → Tells old → IfErr s (IsReportFault (bytes_of old) table)
part_damaged old mid table rows number r e s same rests why below is given tells =
    let quiet = rests tells in
    let at : IsFaultAt (bytes_of mid) rows number e = if_err (IsFaultAt (bytes_of mid) rows number) r e is (why quiet.tells) in
    let here : IsFaultAt (bytes_of old) table number e = subst (λ (b : List ℕ). IsFaultAt b table number e) quiet.contents (subst (λ (t : Table). IsFaultAt (bytes_of mid) t number e) same at) in
    handed_on s e (IsReportFault (bytes_of old) table) given (first_fault (bytes_of old) table number e (below tells) here)

pub part_sound : (old mid : DiskState) (table rows : Table) (number : ℕ) → rows ≡ table → (Tells old → Untouched old mid)
    → (Tells mid → (id : MsId) × IsIn rows.vdevs id × (number_of rows.vdevs id ≡ number) × IsSound (bytes_of mid) rows id) → (Tells old → SoundBelow (bytes_of old) table number)
    → Tells old → SoundBelow (bytes_of old) table (number + 1)
part_sound old mid table rows number same rests sound below tells =
    let quiet = rests tells in
    let at = subst (λ (t : Table). (id : MsId) × IsIn t.vdevs id × (number_of t.vdevs id ≡ number) × IsSound (bytes_of mid) t id) same (sound quiet.tells) in
    sound_more (bytes_of old) table number at.0 at.1 at.2 (subst (λ (b : List ℕ). IsSound b table at.0) quiet.contents at.3) (below tells)

-- the texts of the parts, one behind the other, and the flush behind them
pub all_handed : (a b c d e : SinkState) (xs ys zs text : List ℕ) (r : Result (Unit {0}) Failed) (s : Result (Unit {0}) ReportFault) (t u : Result (Unit {0}) Failed) → Prints a b xs r → r ≡ Ok tt
    → Prints b c ys s → s ≡ Ok tt → Prints c d zs t → t ≡ Ok tt → e.taken ≡ d.taken → OnOk u (e.handed ≡ d.taken) → HasCause d.faults e.faults u → u ≡ Ok tt → text ≡ xs ++ (ys ++ zs)
    → HandsOn {T = Unit {0}} {E = ReportFault} a e text (Ok tt)
all_handed a b c d e xs ys zs text r s t u p r_ok q s_ok o t_ok taken handed cause u_ok is =
    let one = took_first a b xs r tt p r_ok in
    let two = took_more a b c xs ys (xs ++ ys) s tt one q s_ok refl in
    let three = took_more a c d (xs ++ ys) zs text t tt two o t_ok (is ∙ sym (append_assoc xs ys zs)) in
    let steady : e.faults ≡ d.faults = at_ok u tt u_ok cause.steady in
    hands_on a d e text (Ok tt) (Ok tt) tt (prints_all a d text text tt three refl) refl taken (at_ok u tt u_ok handed) (record { later = cause.later; steady = steady; failed = tt })

-- the same lines under other names
pub lines_are : {E : Type 0} (a a' b b' c c' d d' e f f' : List ℕ) → a ≡ a' → b ≡ b' → c ≡ c' → d ≡ d' → f ≡ f' → (old new : SinkState) (r : Result (Unit {0}) E)
    → Prints old new (a ++ (b ++ (c ++ (d ++ (e ++ f))))) r → Prints old new (a' ++ (b' ++ (c' ++ (d' ++ (e ++ f'))))) r
lines_are a a' b b' c c' d d' e f f' one two three four five old new r prints =
    let same : a ++ (b ++ (c ++ (d ++ (e ++ f)))) ≡ a' ++ (b' ++ (c' ++ (d' ++ (e ++ f')))) = cc in
    subst (λ (t : List ℕ). Prints old new t r) same prints

pub err_more : {T E : Type 0} (before now : ℕ) (r : Result T E) (e : E) → r ≡ Err e → HasCause before now r → now ≡ one_more before
err_more before now (Ok x) e is cause = absurd (cc)
err_more before now (Err f) e is cause = cause.failed

-- The text of journals, as functions of the notes.
use Rattle.std.specs.Prelude.{ℕ, Option, Some, None, List, [], ◌∷◌, ◌++◌, codes, decimal}
use Rattle.std.specs.List.{flat_map}
use Rattle.zms_units.specs.declared.places.Class.{Class}
use Rattle.zms_units.specs.declared.places.MsId.{MsId}
use Rattle.zms_units.specs.declared.segments.Group.{Group}
use Rattle.zms_units.specs.declared.segments.Seg.{Seg}
use Rattle.ms_model.specs.declared.journals.ClassJournal.{ClassJournal}
use Rattle.ms_model.specs.declared.journals.Journals.{Journals}
use Rattle.ms_model.specs.declared.journals.MsJournal.{MsJournal}
use Rattle.ms_model.specs.declared.notes.Act.{Act}
use Rattle.ms_model.specs.declared.notes.Act.TheVariants.{Grant, Free, Unalloc, Miss, Shut, Collect, Settle, Load, Unload, Disable, Work, Enable}
use Rattle.ms_model.specs.declared.notes.ClassNote.{ClassNote}
use Rattle.ms_model.specs.declared.notes.ClassNote.TheVariants.{Pick, Granted, Missed, Weigh}
use Rattle.ms_model.specs.declared.notes.Got.{Got}
use Rattle.ms_model.specs.declared.notes.KeeperNote.{KeeperNote}
use Rattle.ms_model.specs.declared.notes.KeeperNote.TheVariants.{Sync, Fault, Damaged}
use Rattle.ms_model.specs.declared.notes.Kind.{Kind}
use Rattle.ms_model.specs.declared.notes.Kind.TheVariants.{Primary, Secondary}
use Rattle.ms_model.specs.declared.notes.Noted.{Noted}
use Rattle.ms_model.specs.declared.notes.Start.{Start}
use Rattle.ms_model.specs.declared.notes.Start.TheVariants.{Active, Top, After}
use Rattle.ms_model.specs.declared.notes.WorkKind.{WorkKind}
use Rattle.ms_model.specs.declared.notes.WorkKind.TheVariants.{Init, Trim}
use Rattle.trace_text.specs.Numbers.{weight_text, numbered}
use Rattle.zms_units.specs.Classes.{class_word}

-- `PLACE LANE NOTE` and a line feed
abbrev pub note_line : ℕ → ℕ → List ℕ → List ℕ
note_line place lane note = decimal place ++ (32 ∷ (decimal lane ++ (32 ∷ (note ++ (10 ∷ [])))))

-- `G START COUNT`
abbrev pub seg_text : Group → Seg → List ℕ
seg_text group seg = decimal group.0 ++ (32 ∷ (decimal seg.start ++ (32 ∷ decimal seg.count)))

-- what a worker does with its segment
abbrev pub work_word : WorkKind → List ℕ
work_word Init = codes " init "
work_word Trim = codes " trim "

-- `W init START COUNT` or `W trim START COUNT`
abbrev pub work_text : ℕ → WorkKind → Seg → List ℕ
work_text worker kind seg = decimal worker ++ (work_word kind ++ (decimal seg.start ++ (32 ∷ decimal seg.count)))

abbrev pub act_text : Act → List ℕ
act_text (Grant group seg) = codes "grant " ++ seg_text group seg
act_text (Free group seg) = codes "free " ++ seg_text group seg
act_text (Unalloc group seg) = codes "unalloc " ++ seg_text group seg
act_text (Miss count) = codes "miss " ++ decimal count
act_text Shut = codes "shut"
act_text (Collect group) = codes "collect " ++ decimal group.0
act_text (Settle group) = codes "settle " ++ decimal group.0
act_text Load = codes "load"
act_text Unload = codes "unload"
act_text (Disable worker) = codes "disable " ++ decimal worker
act_text (Work worker kind seg) = codes "work " ++ work_text worker kind seg
act_text (Enable worker) = codes "enable " ++ decimal worker

-- `V I`
abbrev pub id_text : MsId → List ℕ
id_text id = decimal id.vdev ++ (32 ∷ decimal id.index)

-- `metaslab V I units N shift A held H` and a line feed
abbrev pub metaslab_line : MsJournal → List ℕ
metaslab_line ms =
    codes "metaslab " ++ (id_text ms.id ++ (codes " units " ++ (decimal ms.units
    ++ (codes " shift " ++ (decimal ms.ashift ++ (codes " held " ++ (decimal ms.held ++ (10 ∷ []))))))))

abbrev pub act_line : ℕ → Noted → List ℕ
act_line place note = note_line place note.lane (act_text note.act)

-- a metaslab's line, and one for each of its notes
abbrev pub metaslab_text : MsJournal → List ℕ
metaslab_text ms = metaslab_line ms ++ numbered act_line 1 ms.notes

-- `trace 1 group R` and a line feed
abbrev pub opened_line : Group → List ℕ
opened_line group = codes "trace 1 group " ++ (decimal group.0 ++ (10 ∷ []))

-- the trace of a pool whose classes and keeper have no journals
abbrev pub metaslab_trace_text : Journals → List ℕ
metaslab_trace_text j = opened_line j.opened ++ (flat_map metaslab_text j.metaslabs ++ codes "end\n")

-- which copy a pick was for
abbrev pub kind_word : Kind → List ℕ
kind_word Primary = codes " primary "
kind_word Secondary = codes " secondary "

-- where a pick began: `active`, `top` or `after I X`
abbrev pub start_text : Start → List ℕ
start_text Active = codes " active "
start_text Top = codes " top "
start_text (After weight index) = codes " after " ++ (decimal index ++ (32 ∷ (weight_text weight ++ (32 ∷ []))))

-- what it gave: `none` or `I X`
abbrev pub got_text : Option Got → List ℕ
got_text None = codes "none"
got_text (Some got) = decimal got.index ++ (32 ∷ weight_text got.weight)

abbrev pub class_note_text : ClassNote → List ℕ
class_note_text (Pick allocator kind vdev bytes start got) =
    codes "pick " ++ (decimal allocator ++ (kind_word kind ++ (decimal vdev ++ (32 ∷ (decimal bytes ++ (start_text start ++ got_text got))))))
class_note_text (Granted id bytes weight) = codes "granted " ++ (id_text id ++ (32 ∷ (decimal bytes ++ (32 ∷ weight_text weight))))
class_note_text (Missed id weight) = codes "missed " ++ (id_text id ++ (32 ∷ weight_text weight))
class_note_text (Weigh id weight) = codes "weigh " ++ (id_text id ++ (32 ∷ weight_text weight))

abbrev pub class_note_line : ℕ → ℕ × ClassNote → List ℕ
class_note_line place note = note_line place note.0 (class_note_text note.1)

-- `class CLASS` and a line feed
abbrev pub class_line : Class → List ℕ
class_line class = codes "class " ++ (class_word class ++ (10 ∷ []))

-- a class's line, and one for each of its notes
abbrev pub class_text : ClassJournal → List ℕ
class_text journal = class_line journal.class ++ numbered class_note_line 1 journal.notes

abbrev pub keeper_note_text : KeeperNote → List ℕ
keeper_note_text (Sync group) = codes "sync " ++ decimal group.0
keeper_note_text (Fault before after) = codes "fault " ++ (decimal before ++ (32 ∷ decimal after))
keeper_note_text (Damaged id) = codes "damaged " ++ id_text id

abbrev pub keeper_note_line : ℕ → ℕ × KeeperNote → List ℕ
keeper_note_line place note = note_line place note.0 (keeper_note_text note.1)

-- `keeper`, and a line for each of its notes
abbrev pub keeper_text : List (ℕ × KeeperNote) → List ℕ
keeper_text notes = codes "keeper\n" ++ numbered keeper_note_line 1 notes

-- the trace of a pool
abbrev pub trace_text : Journals → List ℕ
trace_text j =
    opened_line j.opened ++ (flat_map metaslab_text j.metaslabs ++ (flat_map class_text j.classes ++ (keeper_text j.keeper ++ codes "end\n")))

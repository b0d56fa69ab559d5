use Rattle.std.proofs.Common.{◌∙◌, ℕ, List, length, ap, subst}
use Rattle.zms_dev.specs.Bytes.{Outside, Holds}
use Rattle.zms_dev.specs.Disk.{bytes_of}
use Rattle.zms_dev.specs.Runs.{Spares}
use Rattle.zms_dev.proofs.Sparing.{spares_write}
use Rattle.meta_store.proofs.NextTables.{words_held}
use Rattle.meta_store.proofs.side_bytes.write_words.Goals as goal

pub returns-clause-words : goal.returns-clause-words
returns-clause-words g c tells =
    let old = bytes_of (g.D.Disk.state c.args.disk.now) in
    let new = bytes_of (g.D.Disk.state c.write.new.self) in
    let bytes = c.in_ok-bytes.bytes.items in
    let holds : Holds old c.args.at bytes new = subst (λ (b : List ℕ). Holds old c.args.at b new) c.deref.ensures.value (c.in_ok-write.ensures.wrote tells).done in
    words_held old new c.args.at bytes c.args.words.now holds c.in_ok-bytes.ensures.len c.in_ok-bytes.ensures.words

pub returns-clause-spares : goal.returns-clause-spares
returns-clause-spares g c tells =
    let old = g.D.Disk.state c.args.disk.now in
    let new = g.D.Disk.state c.write.new.self in
    subst (λ (n : ℕ). Spares (Outside c.args.at n) old new) (ap length c.deref.ensures.value ∙ c.in_ok-bytes.ensures.len)
    (spares_write old new _ _ _ tells (g.met.D.Disk.only_now c.args.disk.now) c.write.ensures.kind c.write.ensures.time (c.write.ensures.wrote tells))

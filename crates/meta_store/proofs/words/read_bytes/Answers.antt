use Rattle.std.proofs.Common.{◌≡◌, ℕ, ◌++◌, length, take, drop, sym, ap, ◌∙◌}
use Rattle.std.proofs.lemmas.List.{take_at}
use Rattle.zms_dev.specs.Disk.{bytes_of}
use Rattle.uber_ring.specs.Numbers.{bytes_at}
use Rattle.uber_ring.proofs.Pieces.{bytes_at_is_part}
use Rattle.meta_store.proofs.words.read_bytes.Goals as goal

pub returns-clause-bytes : goal.returns-clause-bytes
returns-clause-bytes g c tells =
    let image = bytes_of (g.D.Disk.state c.args.disk.now) in
    let buf = c.read_part.new.buf in
    let count : c.resize.new.self.len ≡ c.args.n = c.in_ok-resize.ensures.len in
    let was : length c.deref_mut.result.now ≡ c.args.n = c.deref_mut.ensures.len ∙ count in
    let len : length buf ≡ c.args.n = c.read_part.auto.buf ∙ was in
    ap (λ (k : ℕ). take k (buf ++ drop (length buf) c.resize.new.self.items)) count ∙ take_at buf (drop (length buf) c.resize.new.self.items) c.args.n len
    ∙ c.in_ok-read_part.ensures.part tells ∙ sym (bytes_at_is_part image c.args.at (length c.deref_mut.result.now)) ∙ ap (λ (k : ℕ). bytes_at image c.args.at k) was

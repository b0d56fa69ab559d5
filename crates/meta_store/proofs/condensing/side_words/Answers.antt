use Rattle.std.proofs.Common.{◌<◌, ◌≤◌, ◌+◌, ℕ, List, length, sym, subst, arith}
use Rattle.sm_entry.specs.declared.SmType.TheVariants.{Free}
use Rattle.space_map.proofs.Fitting.{side_batch_fits}
use Rattle.meta_store.proofs.SideWords.{words_laid, words_room, words_some}
use Rattle.meta_store.proofs.condensing.side_words.Goals as goal

pub append-requires-2-clause-fits : goal.append-requires-2-clause-fits
append-requires-2-clause-fits c = side_batch_fits 0 c.args.group.0 Free c.args.units c.args.free.now c.requires.named c.requires.free (omega (arith, c.ranges.units.fits))

pub returns-clause-words : goal.returns-clause-words
returns-clause-words c =
    words_laid c.args.group.0 c.args.units c.args.free.now c.new-words.result.items c.append.new.words.items c.append-2.new.words.items c.new-words.result.len c.append.new.words.len c.new-words.ensures.items c.new-words.result.ok.0 c.append.new.words.ok.0 c.in_ok-append.ensures.ok c.in_ok-append-2.ensures.ok

pub returns-clause-some : goal.returns-clause-some
returns-clause-some c =
    subst (λ (words : List ℕ). 0 < length words)
    (sym (words_laid c.args.group.0 c.args.units c.args.free.now c.new-words.result.items c.append.new.words.items c.append-2.new.words.items c.new-words.result.len c.append.new.words.len c.new-words.ensures.items c.new-words.result.ok.0 c.append.new.words.ok.0 c.in_ok-append.ensures.ok c.in_ok-append-2.ensures.ok))
    (words_some c.args.group.0 c.args.units c.args.free.now)

pub returns-clause-room : goal.returns-clause-room
returns-clause-room c =
    subst (λ (words : List ℕ). length words ≤ c.args.units + 64)
    (sym (words_laid c.args.group.0 c.args.units c.args.free.now c.new-words.result.items c.append.new.words.items c.append-2.new.words.items c.new-words.result.len c.append.new.words.len c.new-words.ensures.items c.new-words.result.ok.0 c.append.new.words.ok.0 c.in_ok-append.ensures.ok c.in_ok-append-2.ensures.ok))
    (words_room c.args.group.0 c.args.units c.args.free.now c.requires.free)

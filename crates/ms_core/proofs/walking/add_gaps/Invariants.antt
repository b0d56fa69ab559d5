use Rattle.std.proofs.Common.{◌≡◌, ◌+◌, ◌≤◌, ℕ, take}
use Rattle.ms_core.proofs.Words.{not, ◌&&◌, covered, covers, OthersStay, TakesNone}
use Rattle.ms_core.proofs.walking.add_gaps.Given as goal

abbrev pub invariant-loop-seg : goal.invariant-loop-seg
invariant-loop-seg g l =
    record {
      gaps : (u : ℕ) → g.R.SegTrees.set l.trees 0 u ≡ (covers (record { start = 0; count = l.units }) u && not (covered (take l.seg-index l.held) u));
      spare : g.R.SegTrees.spare l.fn.trees ≤ g.R.SegTrees.spare l.trees + (l.seg-index + 1);
      memory : TakesNone (g.R.SegTrees.spare l.fn.trees) (g.R.SegTrees.set l.fn.trees) (g.R.SegTrees.spare l.trees) (g.R.SegTrees.set l.trees);
      others : OthersStay (g.R.SegTrees.set l.fn.trees) (g.R.SegTrees.set l.trees) 0;
    }

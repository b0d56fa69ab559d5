-- What lanes owned is joined, lane by lane.
use Rattle.std.proofs.Common.{◌≡◌, ℕ, ◌+◌, ◌<◌, ◌≤◌, List, [], ◌∷◌, ◌++◌, length, length-append, refl, sym, ap, ◌∙◌, subst, arith, Option, Some, None, Ok, ⊎_elim}
use Rattle.std.specs.Prelude.{slice_get}
use Rattle.std.specs.Global.{Vec}
use Rattle.std.specs.declared.alloc.AllocError.{AllocError}
use Rattle.std.proofs.Math.Nat.{eq-or-lt_of_le}
use Rattle.turn_cell.specs.Known.{Known, TableId}
use Rattle.turn_passes.specs.Parts.{IsIdle}
use Rattle.turn_passes.specs.Pairs.{Each}
use Rattle.turn_passes.proofs.Pairs.{one_item, each_none, each_push}
use Rattle.turn_passes.proofs.Parts.{has_itself, has_along}
use Rattle.ms_cell.proofs.JournalLaws.{have_themselves, have_all_along}
use Rattle.class_group.proofs.JournalLaws.{have_themselves as classes_have_themselves, have_all_along as classes_have_all_along}
use Rattle.pool_keeper.specs.Notes.{KeeperNoted}
use Rattle.pool_keeper.specs.declared.keeper.Start.{Start}
use Rattle.range_tree.specs.declared.trees.RangeTrees.{RangeTrees}
use Rattle.lane_run.specs.declared.replies.Reply.{Reply}
use Rattle.pool_seats.specs.Joining.{AreIdleRest, IsBack, AreBackFrom, Keeps}
use Rattle.pool_seats.specs.declared.pool.Pool.{Pool}
use Rattle.pool_seats.specs.declared.pool.Rest.{Rest}
use Rattle.pool_seats.specs.declared.pool.Seat.{Seat}
use Rattle.pool_seats.proofs.Alike.{same, then}
use Rattle.pool_lanes.specs.Returning.{EachRan}
use Rattle.pool_lanes.specs.declared.running.Ran.{Ran}

module _ {D : Type 0} (pool : Pool) (turn : TableId) where
  pub keeps_itself : (rest : Rest) (keeper : Known KeeperNoted (Start D RangeTrees)) → Keeps rest keeper rest keeper
  keeps_itself rest keeper = record {
    rest = record { cells = have_themselves rest.cells; classes = classes_have_themselves rest.classes; alike = same rest };
    has = has_itself keeper;
    fixed = refl;
  }

  pub keeps_then : (p q r : Rest) (a b c : Known KeeperNoted (Start D RangeTrees)) → AreIdleRest pool p → AreIdleRest pool q → Keeps p a q b → Keeps q b r c → Keeps p a r c
  keeps_then p q r a b c first second h l = record {
    rest = record {
      cells = have_all_along pool.cells p.cells q.cells r.cells first.cells second.cells h.rest.cells l.rest.cells;
      classes = classes_have_all_along pool.classes p.classes q.classes r.classes first.classes second.classes h.rest.classes l.rest.classes;
      alike = then p q r h.rest.alike l.rest.alike;
    };
    has = has_along a b c l.has h.has;
    fixed = l.fixed ∙ h.fixed;
  }

  pub back_then : (s : Seat D) (q r : Rest) (b c : Known KeeperNoted (Start D RangeTrees)) → IsBack pool turn s → AreIdleRest pool q → AreBackFrom q b s → Keeps q b r c → AreBackFrom r c s
  back_then s q r b c back idle h l = record {
    cells = have_all_along pool.cells s.passes.cells q.cells r.cells back.cells idle.cells h.cells l.rest.cells;
    classes = classes_have_all_along pool.classes s.passes.classes q.classes r.classes back.classes idle.classes h.classes l.rest.classes;
    has = has_along s.keeper b c l.has h.has;
  }

  -- the first so many lanes are joined
  pub record AreJoined (old : Rest) (old_keeper : Known KeeperNoted (Start D RangeTrees)) (rest : Rest) (keeper : Known KeeperNoted (Start D RangeTrees)) (rans : List (Ran D)) (lists : List (Vec Reply)) (failed : Option AllocError) (few : ℕ) : Type 0 where
    pub idle : AreIdleRest pool rest
    pub keeper_idle : IsIdle turn keeper
    pub keeps : Keeps old old_keeper rest keeper
    pub back : (k : ℕ) (r : Ran D) → k < few → slice_get rans k ≡ Some r → AreBackFrom rest keeper r.seat
    pub lists_few : length lists ≤ few
    pub lists_are : failed ≡ None → (length lists ≡ few) × Each (λ k r list. r.replies ≡ Ok list) rans lists

  pub joined_none : (rest : Rest) (keeper : Known KeeperNoted (Start D RangeTrees)) (rans : List (Ran D)) (lists : List (Vec Reply)) → AreIdleRest pool rest → IsIdle turn keeper → lists ≡ [] → AreJoined rest keeper rest keeper rans lists None 0
  joined_none rest keeper rans lists idle keeper_idle none = record {
    idle = idle;
    keeper_idle = keeper_idle;
    keeps = keeps_itself rest keeper;
    back = λ k r lt e. absurd (omega (arith, lt));
    lists_few = omega (arith, ap length none);
    lists_are = λ _. (ap length none, subst (λ (l : List (Vec Reply)). Each (λ k r list. r.replies ≡ Ok list) rans l) (sym none) (each_none (λ k r list. r.replies ≡ Ok list) rans));
  }

  module _ (old : Rest) (old_keeper : Known KeeperNoted (Start D RangeTrees)) (rest : Rest) (keeper : Known KeeperNoted (Start D RangeTrees)) (rans : List (Ran D)) (lists : List (Vec Reply)) (failed : Option AllocError) (few : ℕ) (so_far : AreJoined old old_keeper rest keeper rans lists failed few)
      (started : AreIdleRest pool old) (backs : EachRan (λ r. IsBack pool turn r.seat) rans)
      (r : Ran D) (there : slice_get rans few ≡ Some r) (new : Rest) (new_keeper : Known KeeperNoted (Start D RangeTrees)) (idle : AreIdleRest pool new) (keeper_idle : IsIdle turn new_keeper) (keeps : Keeps rest keeper new new_keeper) (back : AreBackFrom new new_keeper r.seat) where
    backs_more : (k : ℕ) (x : Ran D) → k < few + 1 → slice_get rans k ≡ Some x → AreBackFrom new new_keeper x.seat
    backs_more k x lt e =
        ⊎_elim
        (λ (t : k ≡ few). subst (λ (y : Ran D). AreBackFrom new new_keeper y.seat) (one_item rans few r x there (subst (λ (n : ℕ). slice_get rans n ≡ Some x) t e)) back)
        (λ (t : k < few). back_then x.seat rest new keeper new_keeper (backs k x e) so_far.idle (so_far.back k x t e) keeps)
        (eq-or-lt_of_le (omega (arith, lt)))

    pub joined_more : (own : Vec Reply) (more : List (Vec Reply)) → r.replies ≡ Ok own → more ≡ lists ++ own ∷ [] → AreJoined old old_keeper new new_keeper rans more failed (few + 1)
    joined_more own more is grows =
        let longer : length more ≡ length lists + 1 = ap length grows ∙ length-append lists (own ∷ []) in
        record {
          idle = idle;
          keeper_idle = keeper_idle;
          keeps = keeps_then old rest new old_keeper keeper new_keeper started so_far.idle so_far.keeps keeps;
          back = backs_more;
          lists_few = omega (arith, so_far.lists_few, longer);
          lists_are = λ none.
              let was = so_far.lists_are none in (
                omega (arith, was.0, longer),
                each_push (λ k x list. x.replies ≡ Ok list) rans lists more few own was.1 grows was.0
                    (λ x e. subst (λ (y : Ran D). y.replies ≡ Ok own) (one_item rans few r x there e) is),
              );
        }

    pub joined_failed : (error : AllocError) → AreJoined old old_keeper new new_keeper rans lists (Some error) (few + 1)
    joined_failed error = record {
      idle = idle;
      keeper_idle = keeper_idle;
      keeps = keeps_then old rest new old_keeper keeper new_keeper started so_far.idle so_far.keeps keeps;
      back = backs_more;
      lists_few = omega (arith, so_far.lists_few);
      lists_are = λ none. absurd (cc);
    }

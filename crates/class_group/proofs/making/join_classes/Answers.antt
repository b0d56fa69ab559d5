use Rattle.std.proofs.Common.{List, length, ap, subst, ◌∙◌}
use Rattle.turn_passes.specs.Parts.{Joined}
use Rattle.turn_passes.specs.Pairs.{EachThird}
use Rattle.class_group.specs.Passes.{ClassKnown}
use Rattle.class_group.proofs.Gathering.{joined_alike, joined_idle, joined_first, joined_second}
use Rattle.class_group.proofs.making.join_classes.Goals as goal

pub returns-clause-idle : goal.returns-clause-idle
returns-clause-idle c =
    let t = c.args.classes.now in
    let r = c.join_passes.new.first.items in
    let size = c.join_passes.ensures.size ∙ ap length c.first.view_is in
    let each =
    subst (λ (l : List ClassKnown). EachThird (λ k x y z. Joined x y z) l c.args.second r) c.first.view_is
    (subst (λ (l : List ClassKnown). EachThird (λ k x y z. Joined x y z) c.first.inside.cells.items l r) c.second.view_is c.join_passes.ensures.joined) in
    joined_idle t c.args.first.now c.args.second r c.requires.first c.requires.second size each

pub returns-clause-first : goal.returns-clause-first
returns-clause-first c =
    let t = c.args.classes.now in
    let r = c.join_passes.new.first.items in
    let size = c.join_passes.ensures.size ∙ ap length c.first.view_is in
    let each =
    subst (λ (l : List ClassKnown). EachThird (λ k x y z. Joined x y z) l c.args.second r) c.first.view_is
    (subst (λ (l : List ClassKnown). EachThird (λ k x y z. Joined x y z) c.first.inside.cells.items l r) c.second.view_is c.join_passes.ensures.joined) in
    joined_first t c.args.first.now c.args.second r c.requires.first c.requires.second size each

pub returns-clause-second : goal.returns-clause-second
returns-clause-second c =
    let t = c.args.classes.now in
    let r = c.join_passes.new.first.items in
    let size = c.join_passes.ensures.size ∙ ap length c.first.view_is in
    let each =
    subst (λ (l : List ClassKnown). EachThird (λ k x y z. Joined x y z) l c.args.second r) c.first.view_is
    (subst (λ (l : List ClassKnown). EachThird (λ k x y z. Joined x y z) c.first.inside.cells.items l r) c.second.view_is c.join_passes.ensures.joined) in
    joined_second t c.args.first.now c.args.second r c.requires.first c.requires.second size each

pub returns-clause-alike : goal.returns-clause-alike
returns-clause-alike c =
    let t = c.args.classes.now in
    let r = c.join_passes.new.first.items in
    let size = c.join_passes.ensures.size ∙ ap length c.first.view_is in
    let each =
    subst (λ (l : List ClassKnown). EachThird (λ k x y z. Joined x y z) l c.args.second r) c.first.view_is
    (subst (λ (l : List ClassKnown). EachThird (λ k x y z. Joined x y z) c.first.inside.cells.items l r) c.second.view_is c.join_passes.ensures.joined) in
    joined_alike t c.args.first.now c.args.second r c.requires.first c.requires.second size each

use Rattle.std.proofs.Common.{◌≡◌, List, subst}
use Rattle.zms_units.specs.declared.places.VdevRow.{VdevRow}
use Rattle.cmd_text.proofs.Bytes.{if_none}
use Rattle.vdev_text.specs.Specs.{IsSpec}
use Rattle.vdev_text.specs.Reading.{AreFew}
use Rattle.vdev_text.proofs.SpecLemmas.{read_of, few_of, spec_of}
use Rattle.vdev_text.proofs.spec.read_spec.Goals as goal
use Rattle.vdev_text.proofs.spec.read_spec.Goals.{Else-are_few}

pub returns-in_err-vdevs-clause-none : goal.returns-in_err-vdevs-clause-none
returns-in_err-vdevs-clause-none c =
    if_none c.from_residual.result _ (λ rows is. let some = c.in_err-vdevs.ensures.only rows (read_of c.args.text.now rows is) in cc)

pub returns-in_err-vdevs-clause-only : goal.returns-in_err-vdevs-clause-only
returns-in_err-vdevs-clause-only c = λ rows is. absurd (let some = c.in_err-vdevs.ensures.only rows (read_of c.args.text.now rows is) in cc)

pub returns-then-are_few-clause-some : goal.returns-then-are_few-clause-some
returns-then-are_few-clause-some c =
    spec_of c.args.text.now c.in_ok-vdevs.vdevs c.in_ok-vdevs.ensures.read (let same = c.as_slice.ensures in rw same at (c.are_few.ensures.0 c.if-are_few.true))

pub returns-then-are_few-clause-only : goal.returns-then-are_few-clause-only
returns-then-are_few-clause-only c = λ rows is. c.in_ok-vdevs.ensures.only rows (read_of c.args.text.now rows is)

few_in : (c : Else-are_few) (rows : List VdevRow) → IsSpec c.args.text.now rows → ⊥
few_in c rows is =
    let some = c.in_ok-vdevs.ensures.only rows (read_of c.args.text.now rows is) in
    let same : rows ≡ c.as_slice.result.now = cc in
    let few : AreFew c.as_slice.result.now = subst AreFew same (few_of c.args.text.now rows is) in
    let test = c.if-are_few.ensures.1 few in
    cc

pub returns-else-are_few-clause-none : goal.returns-else-are_few-clause-none
returns-else-are_few-clause-none c = few_in c

pub returns-else-are_few-clause-only : goal.returns-else-are_few-clause-only
returns-else-are_few-clause-only c = λ rows is. absurd (few_in c rows is)

use Rattle.std.proofs.Common.{refl, ◌∙◌, ap}
use Rattle.zms_top.specs.Answers.{paired}
use Rattle.zms_top.specs.Ends.{any_device, first_damage, end_status}
use Rattle.zms_top.specs.Reports.{HandsOver, IsPrinted}
use Rattle.zms_top.proofs.ShipLemmas.{stops_by}
use Rattle.zms_top.proofs.run.reported.Goals as goal

pub returns : goal.returns
returns g c =
    let replies = c.args.replies.items in
    let print : IsPrinted c.args.pool (paired c.args.commands.now replies)
    (g.K.Sink.state c.args.out.now) (g.K.Sink.state c.print-printed.new.out) c.print-printed.result = rw c.deref.ensures.value at c.print-printed.ensures in
    let handed : HandsOver c.args.pool replies c.hand_over-journals.result.0 c.hand_over-journals.result.1 = rw c.from_vec.ensures at c.hand_over-journals.ensures in
    let written = c.trace_journals-written.result in
    record {
      some_journals = c.hand_over-journals.result.0;
      some_lists = c.hand_over-journals.result.1;
      journals_are = refl;
      lists_are = refl;
      handed = handed;
      tally = print.tally;
      tally_is = print.tally_is;
      group = print.group;
      group_is = print.group_is;
      written = written;
      writes = record {
        printed = c.print-printed.result;
        prints = print.prints;
        traces = c.trace_journals-written.ensures.traces;
        stops = stops_by g.T.Sink.state c.args.trace.now c.trace_journals-written.new.trace c.print-printed.result written c.trace_journals-written.ensures.stops;
      };
      status_is = c.status_of.ensures ∙ ap (λ r. end_status (any_device r) (first_damage r) written) (c.as_slice.ensures ∙ handed.replies_are);
    }

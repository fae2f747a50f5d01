use Rattle.std.proofs.Common.{Some, ap, sym, ◌∙◌, option_map, subst}
use Rattle.set_model.specs.Views.{entry_of}
use Rattle.report.specs.Ends.{end_of}
use Rattle.report.specs.Readings.{LeavesIf}
use Rattle.report.proofs.TakenEvents.{finish_taken, end_taken, nothing_taken}
use Rattle.report.proofs.reader.Reader.take_event.Goals as goal

pub returns-in-Some : goal.returns-in-Some
returns-in-Some c =
    let loud = sym c.is_quiet.ensures ∙ c.if-is_quiet.false in
    let told = sym (c.finish.ensures c.args.set.now) ∙ ap (option_map entry_of) c.in-Some.is in
    let taken = finish_taken c.args.set.now c.args.self.now c.args.text.now (entry_of c.in-Some.entry) loud told in
    subst (λ o. LeavesIf c.add_finish.result o c.args.self.now.line c.add_finish.new.self) (sym taken) c.add_finish.ensures

pub returns-in_default-end_line : goal.returns-in_default-end_line
returns-in_default-end_line c =
    let loud = sym c.is_quiet.ensures ∙ c.if-is_quiet.false in
    let none = sym (c.finish.ensures c.args.set.now) ∙ ap (option_map entry_of) c.in_default.is in
    let ended = sym (c.end_line.ensures c.args.set.now) ∙ ap (option_map end_of) c.in_default-end_line.is in
    (ap (λ r. r.line) c.self.view_is, nothing_taken c.args.set.now c.args.self.now c.args.text.now loud none ended)

pub returns : goal.returns
returns c =
    let loud = sym c.is_quiet.ensures ∙ c.if-is_quiet.false in
    let none = sym (c.finish.ensures c.args.set.now) ∙ ap (option_map entry_of) c.in_default.is in
    let ended = sym (c.end_line.ensures c.args.set.now) ∙ ap (option_map end_of) c.in-Some-end_line.is in
    end_taken c.args.set.now c.args.self.now c.args.text.now (end_of c.in-Some-end_line.end) loud none ended ∙ ap Some (sym c.add_end.ensures)

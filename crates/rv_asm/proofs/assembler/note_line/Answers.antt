use Rattle.std.proofs.Common.{◌≡◌, ℕ, List, Option, Some, option_map, sym, ap, ◌∙◌, subst}
use Rattle.rv_asm.specs.Found.{find_in}
use Rattle.rv_asm.specs.Labels.{noted, spot}
use Rattle.rv_asm.specs.Lines.{Line, parsed}
use Rattle.rv_asm.proofs.assembler.note_line.Goals as goal

pub returns-then-branch-clause-labels : goal.returns-then-branch-clause-labels
returns-then-branch-clause-labels c =
    let label : Some c.in-Some.name.now ≡ (parsed c.args.bytes.now).label = sym (ap (option_map (λ name. name.now)) c.in-Some.is) ∙ ap (λ (l : Line). l.label) c.parse-line.ensures.exact in
    subst (λ (label : Option (List ℕ)). find_in c.note.new.self ≡ noted (find_in c.args.labels.now) label (spot c.args.number c.args.place)) label c.in_ok-note-in-Some.ensures.noted

pub returns-else-branch-clause-labels : goal.returns-else-branch-clause-labels
returns-else-branch-clause-labels c =
    let label : Some c.in-Some.name.now ≡ (parsed c.args.bytes.now).label = sym (ap (option_map (λ name. name.now)) c.in-Some.is) ∙ ap (λ (l : Line). l.label) c.parse-line.ensures.exact in
    subst (λ (label : Option (List ℕ)). find_in c.note.new.self ≡ noted (find_in c.args.labels.now) label (spot c.args.number c.args.place)) label c.in_ok-note-in-Some.ensures.noted

use Rattle.std.proofs.Common.{◌≡◌, ℕ, ◌+◌, ◌-◌, length, arith, sym, ap, ◌∙◌}
use Rattle.shadow_index.specs.Forms.{record_word}
use Rattle.shadow_index.proofs.ByKind.{word_number, word_record, word_slot}
use Rattle.shadow_index.proofs.state.State.word.Goals as goal

pub returns-then-i-lt9 : goal.returns-then-i-lt9
returns-then-i-lt9 c = c.number_word.ensures ∙ sym (word_number c.args.self.now c.args.i (omega arith))

pub returns-then-i-n : goal.returns-then-i-n
returns-then-i-n c =
    let n : c.from-n.result ≡ length c.args.set.now.objects = omega arith in
    c.slot_word.ensures ∙ sym (word_slot c.args.self.now (length c.args.set.now.objects) c.args.i c.requires.slots (omega arith) (omega (arith, n)))

pub returns : goal.returns
returns c =
    let n = length c.args.set.now.objects in
    let n_is : c.from-n.result ≡ n = omega arith in
    c.record_word.ensures ∙ ap (λ (n : ℕ). record_word c.args.self.now.tasks.items (c.args.i - (9 + n))) n_is ∙ sym (word_record c.args.self.now n c.args.i c.requires.slots (omega (arith, n_is)))

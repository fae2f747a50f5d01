use Rattle.std.proofs.Common.{◌≡◌, length, arith, refl, ◌∙◌}
use Rattle.device_model.specs.Migrations.{moved_index}
use Rattle.shadow_index.specs.States.{index_of}
use Rattle.device_format.proofs.FirstIndex.{first_slot_is, moved_number_is, moved_record_is}
use Rattle.device_format.proofs.fresh.StateFresh.fresh_word.Goals as goal

pub returns-then-i-lt9 : goal.returns-then-i-lt9
returns-then-i-lt9 c = c.word.ensures ∙ moved_number_is c.args.set.now (index_of c.args.self.now) c.args.i (omega arith)

pub returns-then-i-n : goal.returns-then-i-n
returns-then-i-n c =
    let n : c.from-n.result ≡ length c.args.set.now.objects = omega arith in
    first_slot_is c.args.set.now (moved_index c.args.set.now (index_of c.args.self.now)) c.args.i refl (omega arith) (omega (arith, n))

pub returns : goal.returns
returns c =
    let n : c.from-n.result ≡ length c.args.set.now.objects = omega arith in
    c.word-2.ensures ∙ moved_record_is c.args.set.now (index_of c.args.self.now) c.args.i c.requires.slots (omega (arith, n))

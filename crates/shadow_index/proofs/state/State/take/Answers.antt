use Rattle.std.proofs.Common.{◌≡◌, ℕ, ◌+◌, ◌-◌, ◌≤◌, ⊎_elim, not, eqb, nat_le, length, arith, sym, ap, ◌∙◌}
use Rattle.std.proofs.lemmas.Bool.{cases_lt}
use Rattle.std.proofs.lemmas.Bool.Decides.{nat_tests}
use Rattle.device_model.specs.IndexWords.{is_faulty_number}
use Rattle.shadow_index.specs.States.{taken_word}
use Rattle.shadow_index.specs.Forms.{is_faulty_task, told_number}
use Rattle.shadow_index.proofs.ByKind.{numbers_stay, other_slot_stays, padding_is_none, record_stays, slot_is_taken, slot_stays, taken_later, taken_number, word_record}
use Rattle.shadow_index.proofs.Faults.{not-not, fault_number, fault_padding, fault_slot, fault_task}
use Rattle.shadow_index.proofs.state.State.take.Goals as goal

pub returns-then-i-lt9-clause-fault : goal.returns-then-i-lt9-clause-fault
returns-then-i-lt9-clause-fault c =
    let set = c.args.set.now in
    let s = c.args.self.now in
    let records : c.from-records.result ≡ set.records = omega arith in
    c.take_number.ensures.fault ∙ ap not (ap (λ (r : ℕ). is_faulty_number r (told_number s) c.args.i c.args.word) records ∙ fault_number set s c.args.i c.args.word (omega arith))

pub returns-then-i-lt9-clause-word : goal.returns-then-i-lt9-clause-word
returns-then-i-lt9-clause-word c = λ t. taken_number c.take_number.new.self c.args.i (omega arith) ∙ c.take_number.ensures.word t

pub returns-then-i-lt9-clause-before : goal.returns-then-i-lt9-clause-before
returns-then-i-lt9-clause-before c = λ t k l. taken_number c.take_number.new.self k (omega (arith, l)) ∙ c.take_number.ensures.before t k l ∙ sym (taken_number c.args.self.now k (omega (arith, l)))

pub returns-then-i-n-clause-fault : goal.returns-then-i-n-clause-fault
returns-then-i-n-clause-fault c =
    let n : c.from-n.result ≡ length c.args.set.now.objects = omega arith in
    c.take_slot.ensures.fault ∙ ap not (ap (λ (m : ℕ). nat_le m c.args.word) c.slots.ensures.exact ∙ sym (fault_slot c.args.set.now (taken_word c.args.self.now) c.args.i c.args.word (omega arith) (omega (arith, n))))

pub returns-then-i-n-clause-word : goal.returns-then-i-n-clause-word
returns-then-i-n-clause-word c =
    let n : c.from-n.result ≡ length c.args.set.now.objects = omega arith in
    let h = c.take_slot.ensures in
    λ t. slot_is_taken c.args.self.now c.take_slot.new.self c.from-n.result c.args.i c.args.word (c.requires.room.slots ∙ sym n) (h.slots t) h.count (omega arith) (omega arith)

pub returns-then-i-n-clause-before : goal.returns-then-i-n-clause-before
returns-then-i-n-clause-before c =
    let s = c.args.self.now in
    let new = c.take_slot.new.self in
    let n : c.from-n.result ≡ length c.args.set.now.objects = omega arith in
    let old = c.requires.room.slots ∙ sym n in
    let h = c.take_slot.ensures in
    λ t k l. ⊎_elim (λ a. numbers_stay s new k a h.clock h.number h.next h.last h.told)
    (λ a. other_slot_stays s new c.from-n.result c.args.i k c.args.word old (h.slots t) h.count a l (omega arith))
    (cases_lt k 9)

pub returns-then-i-n-2-clause-fault : goal.returns-then-i-n-2-clause-fault
returns-then-i-n-2-clause-fault c =
    let set = c.args.set.now in
    let s = c.args.self.now in
    let n : c.from-n.result ≡ length set.objects = omega arith in
    let records : c.from-records.result ≡ set.records = omega arith in
    let programs : c.programs.result ≡ length set.programs = c.programs.ensures.exact in
    c.take_record.ensures.fault
    ∙ ap not (ap (λ (p : ℕ). is_faulty_task s.told s.next.0 s.tasks.items p (c.args.i - (9 + c.from-n.result)) c.args.word) programs
    ∙ ap (λ (m : ℕ). is_faulty_task s.told s.next.0 s.tasks.items (length set.programs) (c.args.i - (9 + m)) c.args.word) n
    ∙ fault_task set s c.args.i c.args.word c.requires.room.slots (omega (arith, n)) (omega (arith, n, records)))

pub returns-then-i-n-2-clause-word : goal.returns-then-i-n-2-clause-word
returns-then-i-n-2-clause-word c =
    let n : c.from-n.result ≡ length c.args.set.now.objects = omega arith in
    let old = c.requires.room.slots in
    let new = ap (λ v. length v.items) c.take_record.ensures.slots ∙ old ∙ sym n in
    λ t. taken_later c.take_record.new.self c.args.i (omega (arith, n)) ∙ word_record c.take_record.new.self c.from-n.result c.args.i new (omega arith) ∙ c.take_record.ensures.word t

pub returns-then-i-n-2-clause-before : goal.returns-then-i-n-2-clause-before
returns-then-i-n-2-clause-before c =
    let s = c.args.self.now in
    let new = c.take_record.new.self in
    let h = c.take_record.ensures in
    let n : ℕ = c.from-n.result in
    let n_is : c.from-n.result ≡ length c.args.set.now.objects = omega arith in
    let old = c.requires.room.slots ∙ sym n_is in
    λ t k l. ⊎_elim (λ a. numbers_stay s new k a h.clock h.number h.next h.last h.told)
    (λ a. ⊎_elim (λ b. slot_stays s new n k old h.slots a b) (λ b. record_stays s new n c.args.i k old h.slots (h.before t) b l) (cases_lt k (9 + n)))
    (cases_lt k 9)

pub returns-clause-fault : goal.returns-clause-fault
returns-clause-fault c =
    let n : c.from-n.result ≡ length c.args.set.now.objects = omega arith in
    let records : c.from-records.result ≡ c.args.set.now.records = omega arith in
    sym (ap not (fault_padding c.args.set.now (taken_word c.args.self.now) c.args.i c.args.word (omega (arith, n, records))) ∙ not-not (eqb c.args.word 0))

pub returns-clause-word : goal.returns-clause-word
returns-clause-word c =
    let n : c.from-n.result ≡ length c.args.set.now.objects = omega arith in
    let records : c.from-records.result ≡ c.args.set.now.records = omega arith in
    let opened = c.requires.tasks (omega arith) in
    let told = opened.few in
    let count = opened.tasks in
    let few : length c.args.self.now.tasks.items ≤ c.args.set.now.records = omega (arith, told, count) in
    λ t. let z : c.args.word ≡ 0 = grind (arith, nat_tests) in
    padding_is_none c.args.self.now (length c.args.set.now.objects) c.args.set.now.records c.args.i c.requires.room.slots few (omega (arith, n, records)) ∙ sym z

use Rattle.std.proofs.Common.{◌≡◌, ℕ, ◌+◌, ◌-◌, ◌*◌, ◌<◌, ◌≤◌, length, slice_index, arith, ap₂, sym, ◌∙◌}
use Rattle.shadow_index.specs.Tells.{device_of}
use Rattle.commit_writer.specs.Rooms.{layout_by}
use Rattle.shadow_index.specs.States.{word_of}
use Rattle.commit_writer.proofs.Fields.{differs_end, differs_here, differs_later, differs_moved, few_reads, page_end}
use Rattle.std.proofs.lemmas.List.{get_or_read}
use Rattle.commit_writer.proofs.job.Job.differs.Goals as goal
use Rattle.commit_writer.proofs.job.Job.differs.Goals.{else-i-records-via-then-i-records+else-word-index, else-i-records-via-else-i-records}

pub overflow_mul-first : goal.overflow_mul-first
overflow_mul-first c =
    let r = c.requires.set in
    let w = c.page_words.ensures (device_of c.args.set.now c.args.self.now.shift) r.places in
    let first : c.from.result * c.page_words.result ≡ c.args.page * (layout_by c.args.set.now c.args.self.now.shift).page_words = ap₂ (λ (a b : ℕ). a * b) c.from.ensures w in
    omega (arith, first, page_end (layout_by c.args.set.now c.args.self.now.shift) c.args.page c.requires.page, few_reads c.args.set.now c.args.self.now r)

pub overflow_add-i-end : goal.overflow_add-i-end
overflow_add-i-end c =
    let r = c.requires.set in
    let w = c.page_words.ensures (device_of c.args.set.now c.args.self.now.shift) r.places in
    let first : c.from.result * c.page_words.result ≡ c.args.page * (layout_by c.args.set.now c.args.self.now.shift).page_words = ap₂ (λ (a b : ℕ). a * b) c.from.ensures w in
    omega (arith, first, c.page_words-2.ensures (device_of c.args.set.now c.args.self.now.shift) r.places, page_end (layout_by c.args.set.now c.args.self.now.shift) c.args.page c.requires.page, few_reads c.args.set.now c.args.self.now r)

pub index-requires : goal.index-requires
index-requires c =
    let r = c.requires.set in
    let w = c.page_words.ensures (device_of c.args.set.now c.args.self.now.shift) r.places in
    let first : c.from.result * c.page_words.result ≡ c.args.page * (layout_by c.args.set.now c.args.self.now.shift).page_words = ap₂ (λ (a b : ℕ). a * b) c.from.ensures w in
    omega (arith, first, c.requires.long, c.page_words-2.ensures (device_of c.args.set.now c.args.self.now.shift) r.places, page_end (layout_by c.args.set.now c.args.self.now.shift) c.args.page c.requires.page)

pub returns-then-word-index : goal.returns-then-word-index
returns-then-word-index c =
    let r = c.requires.set in
    let w = c.page_words.ensures (device_of c.args.set.now c.args.self.now.shift) r.places in
    let p = c.page_words-2.ensures (device_of c.args.set.now c.args.self.now.shift) r.places in
    let first : c.from.result * c.page_words.result ≡ c.args.page * (layout_by c.args.set.now c.args.self.now.shift).page_words = ap₂ (λ (a b : ℕ). a * b) c.from.ensures w in
    let low : 9 + c.from-records.result ≡ 9 + length c.args.set.now.objects = omega (arith, c.from-records.ensures, c.objects.ensures.exact) in
    let last : ℕ = c.from.result * c.page_words.result + c.page_words-2.result in
    let span : last - c.from.result * c.page_words.result ≡ (layout_by c.args.set.now c.args.self.now.shift).page_words = omega (arith, p) in
    let m : c.loop-i.i < length c.args.self.now.words.items = omega (arith, first, c.requires.long, p, page_end (layout_by c.args.set.now c.args.self.now.shift) c.args.page c.requires.page) in
    let there = get_or_read c.args.self.now.words.items c.loop-i.i c.index.result.now m c.index.ensures 0 in
    sym (differs_here (9 + c.from-records.result) (word_of c.args.before.now) (slice_index c.args.self.now.words.items) c.loop-i.i last c.loop-i-test.true c.if-i-records.true (λ e. c.if-word-index.true (c.word.ensures ∙ e ∙ sym there)))
    ∙ c.loop-i.invariant ∙ differs_moved (word_of c.args.before.now) (slice_index c.args.self.now.words.items) _ _ _ _ _ _ low first span

pub loop-i-preserved : goal.loop-i-preserved
loop-i-preserved c =
    let r = c.requires.set in
    let w = c.page_words.ensures (device_of c.args.set.now c.args.self.now.shift) r.places in
    let p = c.page_words-2.ensures (device_of c.args.set.now c.args.self.now.shift) r.places in
    let first : c.from.result * c.page_words.result ≡ c.args.page * (layout_by c.args.set.now c.args.self.now.shift).page_words = ap₂ (λ (a b : ℕ). a * b) c.from.ensures w in
    let last : ℕ = c.from.result * c.page_words.result + c.page_words-2.result in
    let m : c.loop-i.i < length c.args.self.now.words.items = omega (arith, first, c.requires.long, p, page_end (layout_by c.args.set.now c.args.self.now.shift) c.args.page c.requires.page) in
    let same : 9 + c.from-records.result ≤ c.loop-i.i → word_of c.args.before.now c.loop-i.i ≡ slice_index c.args.self.now.words.items c.loop-i.i = elim c.else-i-records.branch [
      | else-i-records-via-then-i-records+else-word-index v ↦ (λ l. sym v.word.ensures ∙ v.if-word-index.false ∙ get_or_read c.args.self.now.words.items c.loop-i.i v.index.result.now m v.index.ensures 0)
      | else-i-records-via-else-i-records v ↦ (λ l. absurd (omega (arith, l, v.if-i-records.false)))
    ] in
    differs_later (9 + c.from-records.result) (word_of c.args.before.now) (slice_index c.args.self.now.words.items) c.loop-i.i last c.loop-i-test.true same ∙ c.loop-i.invariant

pub returns : goal.returns
returns c =
    let r = c.requires.set in
    let w = c.page_words.ensures (device_of c.args.set.now c.args.self.now.shift) r.places in
    let p = c.page_words-2.ensures (device_of c.args.set.now c.args.self.now.shift) r.places in
    let first : c.from.result * c.page_words.result ≡ c.args.page * (layout_by c.args.set.now c.args.self.now.shift).page_words = ap₂ (λ (a b : ℕ). a * b) c.from.ensures w in
    let low : 9 + c.from-records.result ≡ 9 + length c.args.set.now.objects = omega (arith, c.from-records.ensures, c.objects.ensures.exact) in
    let last : ℕ = c.from.result * c.page_words.result + c.page_words-2.result in
    let span : last - c.from.result * c.page_words.result ≡ (layout_by c.args.set.now c.args.self.now.shift).page_words = omega (arith, p) in
    sym (differs_end (9 + c.from-records.result) (word_of c.args.before.now) (slice_index c.args.self.now.words.items) c.loop-i.i last c.loop-i-test.false)
    ∙ c.loop-i.invariant ∙ differs_moved (word_of c.args.before.now) (slice_index c.args.self.now.words.items) _ _ _ _ _ _ low first span

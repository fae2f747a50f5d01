use Rattle.std.proofs.Common.{◌≡◌, ◌≤◌, Bool, true, false, not, length, refl, sym, ◌∙◌, subst, arith, below_more}
use Rattle.std.specs.Prelude.{slice_index}
use Rattle.set_model.specs.Numbers.{index_words}
use Rattle.device_model.proofs.ForCallers.{fault-same}
use Rattle.device_model.specs.IndexWords.{IsIndex, is_faulty}
use Rattle.shadow_index.specs.States.{taken_word}
use Rattle.committed_state.proofs.tests.is_read.Goals as goal

not-true : (b : Bool) → true ≡ not b → b ≡ false
not-true true e = absurd (cc e)
not-true false e = refl

pub loop-i-preserved : goal.loop-i-preserved
loop-i-preserved c =
    let set = c.args.set.now in
    let old = c.loop-i.into in
    let new = c.take.new.self in
    let i = c.loop-i.i in
    let words = slice_index c.args.words.now in
    let h = c.loop-i.invariant in
    record {
      taken = c.if-not-take.ensures.taken refl;
      words = below_more (λ k. taken_word new k ≡ words k) i (λ k l. c.if-not-take.ensures.before refl k l ∙ h.words k l) (c.if-not-take.ensures.word refl);
      faultless = below_more (λ k. is_faulty set words k (words k) ≡ false) i h.faultless
          (sym (fault-same set (taken_word old) words i (words i) h.words) ∙ not-true (is_faulty set (taken_word old) i (words i)) c.if-not-take.ensures.fault);
    }

pub returns-clause-index : goal.returns-clause-index
returns-clause-index c = λ yes.
    let set = c.args.set.now in
    let words = slice_index c.args.words.now in
    let h = c.loop-i.invariant in
    let objects : length set.objects ≡ 2 = omega (arith, c.objects.ensures.exact, c.if-objects-ne2.false) in
    let records : set.records ≡ 3 = omega (arith, c.records.ensures.exact, c.if-records-ne3.false) in
    let all : index_words set ≤ c.loop-i.i = omega (arith, objects, records, c.loop-i-test.false) in
    let told = c.taken_words_are_index.ensures set c.loop-i.into words c.loop-i.i all h.taken h.words in
    subst (IsIndex set) (sym told) (c.faultless_words_are_index.ensures set words c.loop-i.i all h.faultless).0

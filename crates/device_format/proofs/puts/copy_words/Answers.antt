use Rattle.std.proofs.Common.{⊎_elim, inl, inr, ◌+◌, List, [], ◌∷◌, ◌++◌, arith, ap, refl, sym, ◌∙◌}
use Rattle.device_model.specs.Words.{Change}
use Rattle.device_format.proofs.Putting.{at_err, front_more, old_stays, put_more, put_none}
use Rattle.device_format.proofs.puts.copy_words.Goals as goal

pub loop-i-init : goal.loop-i-init
loop-i-init g c = record { put = λ w h. put_none w c.args.at _; same = refl; never_falls = omega arith }

pub loop-i-preserved : goal.loop-i-preserved
loop-i-preserved g c =
    let i = c.loop-i.i in
    let before = c.loop-i.invariant in record {
      put = λ w h.
          put_more w c.args.at i (c.args.at + i) c.in_ok-word.word _ _ _ (before.put w h)
          (c.in_ok-write.ensures.written ∙ ap (λ (log : List Change). log ++ (c.args.at + i, c.in_ok-word.word) ∷ []) c.read.ensures.kept) refl
          (c.in_ok-word.ensures.word ∙ old_stays w c.args.at i _ _ _ _ (c.args.from + i) (before.put w h) before.same (omega arith) ∙ sym (h i (omega arith)));
      same = c.write.ensures.same ∙ c.read.ensures.same ∙ before.same;
      never_falls = omega (arith, before.never_falls, c.read.ensures.never_falls, c.write.ensures.never_falls);
    }

pub returns-in_err-write-clause-front : goal.returns-in_err-write-clause-front
returns-in_err-write-clause-front g c =
    let i = c.loop-i.i in
    let before = c.loop-i.invariant in
    let kept = c.read.ensures.kept in
    λ w h. at_err c.from_residual-in_err-write.result (front_more w c.args.at i (c.args.at + i) c.in_ok-word.word c.args.count _ _ _ (before.put w h)
    (⊎_elim (λ e. inl (e ∙ kept)) (λ e. inr (e ∙ ap (λ (log : List Change). log ++ (c.args.at + i, c.in_ok-word.word) ∷ []) kept)) c.in_err-write.ensures.either) refl
    (c.in_ok-word.ensures.word ∙ old_stays w c.args.at i _ _ _ _ (c.args.from + i) (before.put w h) before.same (omega arith) ∙ sym (h i (omega arith))) (omega arith))

use Rattle.std.proofs.Common.{◌+◌, arith, refl, sym, ◌∙◌}
use Rattle.device_model.specs.IndexWords.{index_word}
use Rattle.device_format.proofs.Putting.{at_err, front_more, put_more, put_none}
use Rattle.device_format.proofs.pages.put_index.Goals as goal

pub loop-i-init : goal.loop-i-init
loop-i-init g c = record { put = λ w h. put_none w c.args.at _; same = refl; never_falls = omega arith }

pub loop-i-preserved : goal.loop-i-preserved
loop-i-preserved g c =
    let i = c.loop-i.i in record {
      put = λ w h. put_more w c.args.at i (c.args.at + i) c.fresh_word-word.result _ _ _ (c.loop-i.invariant.put w h) c.in_ok-write.ensures.written refl (◌∙◌ {b = index_word (g.S.Fresh.index c.args.state.now c.args.set.now) (c.args.first + i)} c.fresh_word-word.ensures (sym {b = index_word (g.S.Fresh.index c.args.state.now c.args.set.now) (c.args.first + i)} (h i (omega arith))));
      same = c.write.ensures.same ∙ c.loop-i.invariant.same;
      never_falls = omega (arith, c.loop-i.invariant.never_falls, c.write.ensures.never_falls);
    }

pub returns-in_err-write-clause-front : goal.returns-in_err-write-clause-front
returns-in_err-write-clause-front g c =
    let i = c.loop-i.i in
    λ w h. at_err c.from_residual.result (front_more w c.args.at i (c.args.at + i) c.fresh_word-word.result c.args.count _ _ _ (c.loop-i.invariant.put w h) c.in_err-write.ensures.either refl (◌∙◌ {b = index_word (g.S.Fresh.index c.args.state.now c.args.set.now) (c.args.first + i)} c.fresh_word-word.ensures (sym {b = index_word (g.S.Fresh.index c.args.state.now c.args.set.now) (c.args.first + i)} (h i (omega arith)))) (omega arith))

use Rattle.std.proofs.Common.{◌≡◌, ℕ, ◌+◌, ◌*◌, [], ◌∷◌, arith, ◌∙◌}
use Rattle.std.proofs.lemmas.List.{length-set}
use Rattle.shadow_index.proofs.Filling.{row_more, two}
use Rattle.shadow_index.proofs.tables.page_places.Goals as goal

pub loop-page-preserved : goal.loop-page-preserved
loop-page-preserved c =
    let shape = c.args.shape in
    let place : ℕ → ℕ → ℕ = λ page copy. shape.pages_at + (2 * page + copy) * shape.page_words in
    let page = c.loop-page.page in
    let at = c.loop-page.invariant.at in
    let long = c.loop-page.invariant.long in
    let few = c.requires.pages in
    let end : c.from-page-end.result ≡ shape.pages = c.from-page-end.ensures in
    let a : c.loop-page.at ≡ shape.pages_at + (2 * page + 0) * shape.page_words = omega (arith, at) in
    let b : c.loop-page.at + shape.page_words ≡ shape.pages_at + (2 * page + 1) * shape.page_words = omega (arith, at) in
    record {
      long = length-set c.loop-page.places page (c.loop-page.at ∷ (c.loop-page.at + shape.page_words) ∷ []) ∙ long;
      at = omega (arith, at);
      done = row_more place c.loop-page.places page 2 (c.loop-page.at ∷ (c.loop-page.at + shape.page_words) ∷ []) (omega (arith, long, few, end)) (two (place page) _ _ a b) c.loop-page.invariant.done;
    }

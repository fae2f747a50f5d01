use Rattle.std.proofs.Common.{◌≡◌, ℕ, ◌*◌, ap₂, arith, refl, ◌∙◌}
use Rattle.std.proofs.lemmas.Result.{on_err_weaker, on_ok_weaker}
use Rattle.device_model.specs.Layouts.{copy_place}
use Rattle.device_model.specs.IndexWords.{index_word}
use Rattle.device_model.specs.Devices.{layout_on}
use Rattle.device_format.specs.Shown.{device_in}
use Rattle.device_format.proofs.Putting.{at_err, at_places, front_in, front_then, put_at, put_then}
use Rattle.device_format.proofs.Places.{other_begins, page_begins, page_ends}
use Rattle.device_format.proofs.pages.put_page.Goals as goal

pub overflow_mul-from : goal.overflow_mul-from
overflow_mul-from g c =
    let d = device_in c.args.set.now c.args.places.now in
    let l = layout_on d in
    let product : c.from.result * c.page_words-words.result ≡ c.args.page * l.page_words = ap₂ (λ (a b : ℕ). a * b) c.from.ensures (c.page_words-words.ensures d c.requires.table) in
    omega (arith, product, page_begins l c.args.page, page_ends l c.args.page c.requires.page, c.requires.small)

pub put_index-requires-clause-room : goal.put_index-requires-clause-room
put_index-requires-clause-room g c =
    let d = device_in c.args.set.now c.args.places.now in
    let l = layout_on d in
    omega (arith, c.page_at.ensures d c.requires.table c.requires.page, c.page_words-words.ensures d c.requires.table, page_ends l c.args.page c.requires.page, c.requires.room)

pub put_index-requires-clause-small : goal.put_index-requires-clause-small
put_index-requires-clause-small g c =
    let d = device_in c.args.set.now c.args.places.now in
    let l = layout_on d in
    omega (arith, c.page_at.ensures d c.requires.table c.requires.page, c.page_words-words.ensures d c.requires.table, page_ends l c.args.page c.requires.page, c.requires.small)

pub put_index-requires-clause-words : goal.put_index-requires-clause-words
put_index-requires-clause-words g c =
    let d = device_in c.args.set.now c.args.places.now in
    let l = layout_on d in
    let product : c.from.result * c.page_words-words.result ≡ c.args.page * l.page_words = ap₂ (λ (a b : ℕ). a * b) c.from.ensures (c.page_words-words.ensures d c.requires.table) in
    omega (arith, product, c.page_words-words.ensures d c.requires.table, page_begins l c.args.page, page_ends l c.args.page c.requires.page, c.requires.small)

pub put_zeros-requires-clause-room : goal.put_zeros-requires-clause-room
put_zeros-requires-clause-room g c =
    let d = device_in c.args.set.now c.args.places.now in
    let l = layout_on d in
    rw c.put_index.ensures.same
    (omega (arith, c.page_at-2.ensures d c.requires.table c.requires.page, c.page_words-words.ensures d c.requires.table, other_begins l c.args.page, page_ends l c.args.page c.requires.page, c.requires.room))

pub put_zeros-requires-clause-small : goal.put_zeros-requires-clause-small
put_zeros-requires-clause-small g c =
    let d = device_in c.args.set.now c.args.places.now in
    let l = layout_on d in
    omega (arith, c.page_at-2.ensures d c.requires.table c.requires.page, c.page_words-words.ensures d c.requires.table, other_begins l c.args.page, page_ends l c.args.page c.requires.page, c.requires.small)

pub returns-in_err-put_index-clause-front : goal.returns-in_err-put_index-clause-front
returns-in_err-put_index-clause-front g c =
    let d = device_in c.args.set.now c.args.places.now in
    let l = layout_on d in
    let at : c.page_at.result ≡ copy_place l c.args.page 0 0 = c.page_at.ensures d c.requires.table c.requires.page in
    let words : c.page_words-words.result ≡ l.page_words = c.page_words-words.ensures d c.requires.table in
    let first : c.from.result * c.page_words-words.result ≡ c.args.page * l.page_words = ap₂ (λ (a b : ℕ). a * b) c.from.ensures words in
    λ w h. at_err c.from_residual.result
    (front_in w c.page_at.result c.page_words-words.result (copy_place l c.args.page 0 0) (2 * l.page_words) _ _ at (omega (arith, words))
    (c.in_err-put_index.ensures.front w (at_places w (index_word (g.S.Fresh.index c.args.state.now c.args.set.now)) _ _ _ _ _ _ at words first h.current)))

pub returns-clause-put : goal.returns-clause-put
returns-clause-put g c =
    let d = device_in c.args.set.now c.args.places.now in
    let l = layout_on d in
    let at : c.page_at.result ≡ copy_place l c.args.page 0 0 = c.page_at.ensures d c.requires.table c.requires.page in
    let other : c.page_at-2.result ≡ copy_place l c.args.page 1 0 = c.page_at-2.ensures d c.requires.table c.requires.page in
    let words : c.page_words-words.result ≡ l.page_words = c.page_words-words.ensures d c.requires.table in
    let first : c.from.result * c.page_words-words.result ≡ c.args.page * l.page_words = ap₂ (λ (a b : ℕ). a * b) c.from.ensures words in
    λ w h. on_ok_weaker c.put_zeros.result
    (λ k. put_then w (copy_place l c.args.page 0 0) l.page_words c.page_at-2.result c.page_words-words.result (2 * l.page_words) _ _ _
    (put_at w c.page_at.result c.page_words-words.result (copy_place l c.args.page 0 0) l.page_words _ _ at words
    (c.in_ok-put_index.ensures.put w (at_places w (index_word (g.S.Fresh.index c.args.state.now c.args.set.now)) _ _ _ _ _ _ at words first h.current)))
    k (other ∙ other_begins l c.args.page) (omega (arith, words)))
    (c.put_zeros.ensures.put w (at_places w (λ n. 0) _ _ _ _ 0 0 other words refl h.other))

pub returns-clause-front : goal.returns-clause-front
returns-clause-front g c =
    let d = device_in c.args.set.now c.args.places.now in
    let l = layout_on d in
    let at : c.page_at.result ≡ copy_place l c.args.page 0 0 = c.page_at.ensures d c.requires.table c.requires.page in
    let other : c.page_at-2.result ≡ copy_place l c.args.page 1 0 = c.page_at-2.ensures d c.requires.table c.requires.page in
    let words : c.page_words-words.result ≡ l.page_words = c.page_words-words.ensures d c.requires.table in
    let first : c.from.result * c.page_words-words.result ≡ c.args.page * l.page_words = ap₂ (λ (a b : ℕ). a * b) c.from.ensures words in
    λ w h. on_err_weaker c.put_zeros.result
    (λ k. front_then w (copy_place l c.args.page 0 0) l.page_words c.page_at-2.result c.page_words-words.result (2 * l.page_words) _ _ _
    (put_at w c.page_at.result c.page_words-words.result (copy_place l c.args.page 0 0) l.page_words _ _ at words
    (c.in_ok-put_index.ensures.put w (at_places w (index_word (g.S.Fresh.index c.args.state.now c.args.set.now)) _ _ _ _ _ _ at words first h.current)))
    k (other ∙ other_begins l c.args.page) (omega (arith, words)))
    (c.put_zeros.ensures.front w (at_places w (λ n. 0) _ _ _ _ 0 0 other words refl h.other))

-- Code put into memory a word at a time, and words read one after another.
use Rattle.std.proofs.Common.{◌≡◌, ℕ, zero, suc, ◌+◌, ◌*◌, ◌-◌, ◌<◌, ◌≤◌, List, [], ◌∷◌, ◌++◌, length, take, get_or, set, replicate, refl, sym, ap, ◌∙◌, arith, append_assoc, length-append, add-zero}
use Rattle.std.specs.List.{flat_map}
use Rattle.std.proofs.lemmas.List.{set-append_right, length-replicate, take_more, length-take-le}
use Rattle.std.proofs.lemmas.Grind.{flat_map-append}
use Rattle.rv_core.specs.Bytes.{word_at, put_word, bytes_of}
use Rattle.rv_core.specs.Bytes.{words_at}
use Rattle.rv_core.specs.Task.{loaded}

pub words_at-suc : (memory : List ℕ) (at n : ℕ) → words_at memory at (suc n) ≡ words_at memory at n ++ word_at memory (at + 4 * n) ∷ []
words_at-suc memory at zero = rw (add-zero at) refl
words_at-suc memory at (suc n) =
    let place : at + 4 + 4 * n ≡ at + 4 * suc n = omega arith in
    ap (λ ws. word_at memory at ∷ ws) (words_at-suc memory (at + 4) n ∙ ap (λ k. words_at memory (at + 4) n ++ word_at memory k ∷ []) place)

length-bytes : (xs : List ℕ) → length (flat_map bytes_of xs) ≡ 4 * length xs
length-bytes [] = refl
length-bytes (x ∷ xs) = let e = length-bytes xs in omega arith

-- four bytes over the first four behind a
over : (a r : List ℕ) (n p q s t : ℕ) → length a ≡ n
    → set (set (set (set (a ++ 0 ∷ 0 ∷ 0 ∷ 0 ∷ r) n p) (n + 1) q) (n + 2) s) (n + 3) t ≡ a ++ p ∷ q ∷ s ∷ t ∷ r
over a r n p q s t e =
    let at0 : n - n ≡ 0 = omega arith in
    let at1 : n + 1 - n ≡ 1 = omega arith in
    let at2 : n + 2 - n ≡ 2 = omega arith in
    let at3 : n + 3 - n ≡ 3 = omega arith in
    rw (
      set-append_right a (0 ∷ 0 ∷ 0 ∷ 0 ∷ r) n n p e (omega arith),
      at0,
      set-append_right a (p ∷ 0 ∷ 0 ∷ 0 ∷ r) n (n + 1) q e (omega arith),
      at1,
      set-append_right a (p ∷ q ∷ 0 ∷ 0 ∷ r) n (n + 2) s e (omega arith),
      at2,
      set-append_right a (p ∷ q ∷ s ∷ 0 ∷ r) n (n + 3) t e (omega arith),
      at3,
    ) refl

zeros : (k m : ℕ) → m ≡ k + 4 → replicate {A = ℕ} m 0 ≡ 0 ∷ 0 ∷ 0 ∷ 0 ∷ replicate k 0
zeros k m e = let four : m ≡ suc (suc (suc (suc k))) = omega arith in rw four refl

pub put_word-loaded : (xs : List ℕ) (w n : ℕ) → 4 * length xs + 4 ≤ n → put_word (loaded xs n) (4 * length xs) w ≡ loaded (xs ++ w ∷ []) n
put_word-loaded xs w n fits =
    let k = n - 4 * length xs - 4 in
    let rest : n - 4 * length (xs ++ w ∷ []) ≡ k = omega (arith, length-append xs (w ∷ [])) in
    rw (zeros k (n - 4 * length xs) (omega arith), rest, flat_map-append bytes_of xs (w ∷ []), append_assoc)
    (over (flat_map bytes_of xs) (replicate {A = ℕ} k 0) (4 * length xs) _ _ _ _ (length-bytes xs))

pub length-loaded : (xs : List ℕ) (n : ℕ) → 4 * length xs ≤ n → length (loaded xs n) ≡ n
length-loaded xs n fits = simp (length-append, length-bytes, length-replicate) (omega arith)

pub load_step : (m n code : List ℕ) (at i : ℕ) → at ≡ 4 * i → i < length code → 4 * length code ≤ length m → length n ≡ length m
    → m ≡ loaded (take i code) (length m) → n ≡ put_word m at (get_or code i 0) → n ≡ loaded (take (i + 1) code) (length n)
load_step m n code at i place inside fits same begun put =
    let w = get_or code i 0 in
    let t = take i code in
    let len : length t ≡ i = length-take-le i code (omega arith) in
    let here : at ≡ 4 * length t = omega arith in
    put ∙ ap (λ x. put_word x at w) begun ∙ ap (λ k. put_word (loaded t (length m)) k w) here
    ∙ put_word-loaded t w (length m) (omega arith)
    ∙ ap (λ xs. loaded xs (length m)) (sym (take_more code i 0 inside)) ∙ ap (λ k. loaded (take (i + 1) code) k) (sym same)

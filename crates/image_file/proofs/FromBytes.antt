-- Words that are read four bytes each have those bytes again.
use Rattle.std.proofs.Common.{◌≡◌, ℕ, suc, ◌+◌, ◌*◌, ◌/◌, ◌%◌, ◌^◌, ◌<◌, List, [], ◌∷◌, ◌++◌, length, drop, slice_index, refl, sym, ap, ◌∙◌, arith}
use Rattle.byteorder.specs.Endian.{IsRead, little_bytes, little_number}
use Rattle.byteorder.specs.Numbers.{little_number-reads_back}
use Rattle.image_file.specs.Images.{image_of}

-- the four bytes of a number that four bytes make
four_bytes : (a b c d : ℕ) → a < 256 → b < 256 → c < 256 → d < 256 → little_bytes 4 (a + 256 * (b + 256 * (c + 256 * d))) ≡ a ∷ b ∷ c ∷ d ∷ []
four_bytes a b c d p q r s =
    let w = a + 256 * (b + 256 * (c + 256 * d)) in
    let e : w % 256 ≡ a = omega arith in
    let f : w / 256 % 256 ≡ b = omega arith in
    let g : w / 65536 % 256 ≡ c = omega arith in
    let h : w / 16777216 % 256 ≡ d = omega arith in
    rw (e, f, g, h) refl

-- words that are read from bytes, and no byte is left
pub image_is : (words bytes : List ℕ) → length bytes ≡ 4 * length words → ((i : ℕ) → slice_index bytes i < 256) → IsRead little_number 4 bytes words → image_of words ≡ bytes
image_is [] [] n small read = refl
image_is [] (a ∷ bytes) n small read = absurd (omega (arith, n))
image_is (w ∷ words) [] n small read = absurd (omega (arith, n))
image_is (w ∷ words) (a ∷ []) n small read = absurd (omega (arith, n))
image_is (w ∷ words) (a ∷ b ∷ []) n small read = absurd (omega (arith, n))
image_is (w ∷ words) (a ∷ b ∷ c ∷ []) n small read = absurd (omega (arith, n))
image_is (w ∷ words) (a ∷ b ∷ c ∷ d ∷ bytes) n small read =
    let rest = image_is words bytes (omega (arith, n)) (λ i. small (suc (suc (suc (suc i))))) (λ k l. rest_read k (omega (arith, l))) in
    let at : w ≡ a + 256 * (b + 256 * (c + 256 * (d + 256 * 0))) = read 0 (omega arith) in
    let first : w ≡ a + 256 * (b + 256 * (c + 256 * d)) = omega (arith, at) in
    let four = ap (little_bytes 4) first ∙ four_bytes a b c d (small 0) (small 1) (small 2) (small 3) in
    ap (λ (bs : List ℕ). bs ++ image_of words) four ∙ ap (λ (r : List ℕ). a ∷ b ∷ c ∷ d ∷ r) rest
  where
    rest_read : (k : ℕ) → k < length words → slice_index words k ≡ little_number 4 (drop (4 * k) bytes)
    rest_read k l =
        let e : 4 * suc k ≡ suc (suc (suc (suc (4 * k)))) = omega arith in
        read (suc k) (omega (arith, l)) ∙ ap (λ (j : ℕ). little_number 4 (drop j (a ∷ b ∷ c ∷ d ∷ bytes))) e

-- words with the same bytes are the same
pub same_words : (xs ys : List ℕ) → ((i : ℕ) → slice_index xs i < 2 ^ 32) → ((i : ℕ) → slice_index ys i < 2 ^ 32) → image_of xs ≡ image_of ys → xs ≡ ys
same_words [] [] p q e = refl
same_words [] (y ∷ ys) p q e = absurd (cc e)
same_words (x ∷ xs) [] p q e = absurd (cc e)
same_words (x ∷ xs) (y ∷ ys) p q e =
    let rest : image_of xs ≡ image_of ys = ap (drop 4) e in
    let a = little_number-reads_back 4 x (image_of xs) (omega (arith, p 0)) in
    let b = little_number-reads_back 4 y (image_of ys) (omega (arith, q 0)) in
    let first : x ≡ y = sym a ∙ ap (little_number 4) e ∙ b in
    let more = same_words xs ys (λ i. p (suc i)) (λ i. q (suc i)) rest in
    rw (first, more) refl

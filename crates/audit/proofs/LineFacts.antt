-- The first line that differs, from a place on.
use Rattle.std.proofs.Common.{◌≡◌, ℕ, suc, ◌+◌, ◌<◌, ◌≤◌, Bool, true, false, cond, List, [], ◌∷◌, length, map, drop, get_or, Option, Some, sym, ap, ap₂, ◌∙◌, arith}
use Rattle.std.proofs.Math.Seq.{drop-cons}
use Rattle.std.proofs.lemmas.List.{drop_all, get_or-map, length-map}
use Rattle.nv_base.specs.declared.lines.TaskRec as base
use Rattle.set_model.specs.Views.{task_of}
use Rattle.audit.specs.Differences.{same_task, unlike_from}

at_place : {X : Type 0} (xs : List X) (i : ℕ) (d : X) → i < length xs → drop i xs ≡ get_or xs i d ∷ drop (i + 1) xs
at_place xs i d l = let z : suc i ≡ i + 1 = omega arith in drop-cons xs i d l ∙ ap (λ j. get_or xs i d ∷ drop j xs) z

-- two lists
unlike_at : {A : Type 0} (same : A → A → Bool) (n : ℕ) (xs ys : List A) (i : ℕ) (d : A) → i < length xs → i < length ys
    → unlike_from same n (drop i xs) (drop i ys) ≡ cond (same (get_or xs i d) (get_or ys i d)) (unlike_from same (n + 1) (drop (i + 1) xs) (drop (i + 1) ys)) (Some n)
unlike_at same n xs ys i d l m = ap₂ (unlike_from same n) (at_place xs i d l) (at_place ys i d m)

-- what the tasks from a place on tell, where all tell this
abbrev pub Left : Option ℕ → (line : ℕ) → (told left : List base.TaskRec) → ℕ → Type 0
Left all line told left k = all ≡ unlike_from same_task (line + k) (drop k (map task_of told)) (drop k (map task_of left))

inside : (ts : List base.TaskRec) (k : ℕ) → k < length ts → k < length (map task_of ts)
inside ts k l = omega (arith, l, length-map ts task_of)

past : (ts : List base.TaskRec) (k : ℕ) → length ts ≤ k → drop k (map task_of ts) ≡ []
past ts k l = drop_all k (map task_of ts) (omega (arith, l, length-map ts task_of))

same_at : (told left : List base.TaskRec) (k : ℕ) (d : base.TaskRec) (b : Bool) → k < length told → k < length left → same_task (task_of (get_or told k d)) (task_of (get_or left k d)) ≡ b → same_task (get_or (map task_of told) k (task_of d)) (get_or (map task_of left) k (task_of d)) ≡ b
same_at told left k d b l m e = ap₂ same_task (get_or-map task_of told k d (task_of d) l) (get_or-map task_of left k d (task_of d) m) ∙ e

met : (all : Option ℕ) (line : ℕ) (told left : List base.TaskRec) (k : ℕ) (d : base.TaskRec) (b : Bool) → k < length told → k < length left → Left all line told left k → same_task (task_of (get_or told k d)) (task_of (get_or left k d)) ≡ b
    → all ≡ cond b (unlike_from same_task (line + k + 1) (drop (k + 1) (map task_of told)) (drop (k + 1) (map task_of left))) (Some (line + k))
met all line told left k d b l m h e =
    let pick : Bool → Option ℕ = λ c. cond c (unlike_from same_task (line + k + 1) (drop (k + 1) (map task_of told)) (drop (k + 1) (map task_of left))) (Some (line + k)) in
    h ∙ unlike_at same_task (line + k) (map task_of told) (map task_of left) k (task_of d) (inside told k l) (inside left k m) ∙ ap pick (same_at told left k d b l m e)

pub task_differs : (all : Option ℕ) (line : ℕ) (told left : List base.TaskRec) (k : ℕ) (d : base.TaskRec) → k < length told → k < length left → Left all line told left k → same_task (task_of (get_or told k d)) (task_of (get_or left k d)) ≡ false → Some (line + k) ≡ all
task_differs all line told left k d l m h e = sym (met all line told left k d false l m h e)

pub task_follows : (all : Option ℕ) (line : ℕ) (told left : List base.TaskRec) (k : ℕ) (d : base.TaskRec) → k < length told → k < length left → Left all line told left k → same_task (task_of (get_or told k d)) (task_of (get_or left k d)) ≡ true → Left all line told left (k + 1)
task_follows all line told left k d l m h e =
    let z : line + k + 1 ≡ line + (k + 1) = omega arith in
    met all line told left k d true l m h e ∙ ap (λ n. unlike_from same_task n (drop (k + 1) (map task_of told)) (drop (k + 1) (map task_of left))) z

pub task_surplus : (all : Option ℕ) (line : ℕ) (told left : List base.TaskRec) (k : ℕ) (d : base.TaskRec) → k < length told → length left ≤ k → Left all line told left k → Some (line + k) ≡ all
task_surplus all line told left k d l m h = sym (h ∙ ap₂ (unlike_from same_task (line + k)) (at_place (map task_of told) k (task_of d) (inside told k l)) (past left k m))

pub task_missing : (all : Option ℕ) (line : ℕ) (told left : List base.TaskRec) (k : ℕ) (d : base.TaskRec) → length told ≤ k → k < length left → Left all line told left k → Some (line + k) ≡ all
task_missing all line told left k d l m h = sym (h ∙ ap₂ (unlike_from same_task (line + k)) (past told k l) (at_place (map task_of left) k (task_of d) (inside left k m)))

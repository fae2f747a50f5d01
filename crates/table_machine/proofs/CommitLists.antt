-- Which commit is under way, by the cores.
use Rattle.std.proofs.Common.{◌≡◌, ℕ, zero, suc, ◌⊎◌, inl, inr, true, List, [], ◌∷◌, get_or, set, Some, None, refl, sym, ap, ◌∙◌, arith}
use Rattle.std.proofs.lemmas.Bool.{cases_eq}
use Rattle.kernel_model.specs.Items.{FinishRecord}
use Rattle.kernel_model.specs.Cores.{Core, Idle, Running, Copying, Ready, Committing, commits, finished_by}
use Rattle.kernel_model.specs.Events.{durable_commit}
use Rattle.kernel_model.proofs.ForCallers.{durable_commit-none, durable_commit-one}
use Rattle.table_machine.specs.Represents.{commit_by, commit_in}

-- none, where no core commits
pub commit-none : {M : Type 0} → (cores : List (Core M)) → ((k : ℕ) → commit_by (get_or cores k Idle) ≡ None) → commit_in cores ≡ None
commit-none [] h = refl
commit-none (c ∷ cores) h = let e = h 0 in rw e (commit-none cores (λ k. h (suc k)))

-- the one that commits
pub commit-one : {M : Type 0} → (cores : List (Core M)) (n : ℕ) (p : FinishRecord × ℕ) → commit_by (get_or cores n Idle) ≡ Some p → ((k : ℕ) → (k ≡ n → ⊥) → commit_by (get_or cores k Idle) ≡ None) → commit_in cores ≡ Some p
commit-one {M} [] n p e h = absurd (cc e)
commit-one (c ∷ cores) zero p e h = rw e refl
commit-one (c ∷ cores) (suc n) p e h =
    let first : commit_by c ≡ None = h 0 (λ f. absurd (omega (arith, f))) in
    rw first (commit-one cores n p e (λ k ne. h (suc k) (λ f. ne (omega (arith, f)))))

-- the same, where core n commits as before
pub commit-set : {M : Type 0} → (cores : List (Core M)) (n : ℕ) (d : Core M) → commit_by d ≡ commit_by (get_or cores n Idle) → commit_in (set cores n d) ≡ commit_in cores
commit-set [] n d e = refl
commit-set (c ∷ cores) zero d e = rw e refl
commit-set (c ∷ cores) (suc n) d e = rw (commit-set cores n d e) refl

pub commit-idle : {M : Type 0} → (cores : List (Core M)) → ((k : ℕ) → get_or cores k Idle ≡ Idle) → commit_in cores ≡ None
commit-idle cores h = commit-none cores (λ k. let e = h k in rw e refl)

-- a core that does not commit
pub calm-core : {M : Type 0} → (c : Core M) → (commits c ≡ true → ⊥) → commit_by c ≡ None
calm-core Idle h = refl
calm-core (Running a) h = refl
calm-core (Copying a copied) h = refl
calm-core (Ready a outcome) h = refl
calm-core (Committing i left) h = absurd (h refl)

-- no core commits, or one does
pub find-commit : {M : Type 0} → (cores : List (Core M)) → ((k : ℕ) → commits (get_or cores k Idle) ≡ true → ⊥) ⊎ ((n : ℕ) × (i : FinishRecord) × (left : ℕ) × (get_or cores n Idle ≡ Committing i left))
find-commit [] = inl (λ k e. cc e)
find-commit {M} (c ∷ cores) = by c refl (find-commit cores)
  where
    Found : Type 0
    Found = ((k : ℕ) → commits (get_or (c ∷ cores) k Idle) ≡ true → ⊥) ⊎ ((n : ℕ) × (i : FinishRecord) × (left : ℕ) × (get_or (c ∷ cores) n Idle ≡ Committing i left))

    later : (d : Core M) → c ≡ d → (commits d ≡ true → ⊥) → ((k : ℕ) → commits (get_or cores k Idle) ≡ true → ⊥) ⊎ ((n : ℕ) × (i : FinishRecord) × (left : ℕ) × (get_or cores n Idle ≡ Committing i left)) → Found
    later d e ne (inl h) = inl at
      where
        at : (k : ℕ) → commits (get_or (c ∷ cores) k Idle) ≡ true → ⊥
        at zero f = ne (ap commits (sym e) ∙ f)
        at (suc k) f = h k f
    later d e ne (inr p) = inr (suc p.0, p.1, p.2, p.3)

    by : (d : Core M) → c ≡ d → ((k : ℕ) → commits (get_or cores k Idle) ≡ true → ⊥) ⊎ ((n : ℕ) × (i : FinishRecord) × (left : ℕ) × (get_or cores n Idle ≡ Committing i left)) → Found
    by Idle e rest = later Idle e (λ f. cc f) rest
    by (Running a) e rest = later (Running a) e (λ f. cc f) rest
    by (Copying a copied) e rest = later (Copying a copied) e (λ f. cc f) rest
    by (Ready a outcome) e rest = later (Ready a outcome) e (λ f. cc f) rest
    by (Committing i left) e rest = inr (0, i, left, e)

-- what finishes, where no core commits
pub finish-none : {M : Type 0} → (cores : List (Core M)) → ((k : ℕ) → commits (get_or cores k Idle) ≡ true → ⊥) → durable_commit cores ≡ None
finish-none {M} cores h = durable_commit-none cores (λ k. at (get_or cores k Idle) (h k))
  where
    at : (c : Core M) → (commits c ≡ true → ⊥) → finished_by c ≡ None
    at Idle h = refl
    at (Running a) h = refl
    at (Copying a copied) h = refl
    at (Ready a outcome) h = refl
    at (Committing i left) h = absurd (h refl)

-- where one does
pub finish-one : {M : Type 0} → (cores : List (Core M)) (n : ℕ) (i : FinishRecord) (left : ℕ) → get_or cores n Idle ≡ Committing i left → ((j k : ℕ) → commits (get_or cores j Idle) ≡ true → commits (get_or cores k Idle) ≡ true → j ≡ k) →
    (commit_in cores ≡ Some (i, left)) × (durable_commit cores ≡ finished_by {M = M} (Committing i left))
finish-one {M} cores n i left at one = (commit-one cores n (i, left) (rw at refl) (λ k ne. calm-core (get_or cores k Idle) (λ c. ne (one k n c (rw at refl)))), go left at)
  where
    none : (c : Core M) → (commits c ≡ true → ⊥) → finished_by c ≡ None
    none Idle h = refl
    none (Running a) h = refl
    none (Copying a copied) h = refl
    none (Ready a outcome) h = refl
    none (Committing j m) h = absurd (h refl)

    go : (m : ℕ) → get_or cores n Idle ≡ Committing i m → durable_commit cores ≡ finished_by {M = M} (Committing i m)
    go zero e = (durable_commit-one cores n i (rw e refl) (λ k ne. none (get_or cores k Idle) (λ c. ne (one k n c (rw e refl))))).0
    go (suc m) e = durable_commit-none cores (λ k. at_each k (core_or k))
      where
        core_or : (k : ℕ) → (k ≡ n) ⊎ (k ≡ n → ⊥)
        core_or k = cases_eq k n

        at_each : (k : ℕ) → (k ≡ n) ⊎ (k ≡ n → ⊥) → finished_by (get_or cores k Idle) ≡ None
        at_each k (inl f) = rw (f, e) refl
        at_each k (inr ne) = none (get_or cores k Idle) (λ c. ne (one k n c (rw e refl)))

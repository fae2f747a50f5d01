-- Lists of seats and of objects, place by place.
use Rattle.std.proofs.Common.{◌≡◌, ℕ, zero, suc, ◌+◌, ◌<◌, ◌≤◌, Bool, cond, ◌||◌, List, [], ◌∷◌, get_or, set, length, Option, Some, refl, sym, ap, ap₂, ◌∙◌, arith}
use Rattle.std.specs.Prelude.{replicate, is_some}
use Rattle.std.specs.Option.{option_or}
use Rattle.std.specs.List.{list_any}
use Rattle.kernel_model.specs.Effects.{Write, written}
use Rattle.kernel_model.specs.Items.{FinishRecord}
use Rattle.kernel_model.specs.Replay.{DeviceState, TaskRec}
use Rattle.kernel_model.specs.Cores.{Core, Idle, Running, Copying, Ready, Committing, all_but, commits, held_by, is_committing, is_task, next_task, finished_by}
use Rattle.kernel_model.specs.Events.{durable_commit}
use Rattle.kernel_model.specs.Versions.{Read}
use Rattle.slot_model.specs.Kept.{Kept}
use Rattle.slot_model.specs.Tabled.{view_of, views_of, with_view}
use Rattle.device_model.specs.IndexWords.{Index}
use Rattle.table_machine.specs.Tables.{Chain, Seat, Vacant, chain_at, each_from}
use Rattle.table_machine.specs.Places.{slots_after, view_by, views_in}
use Rattle.table_machine.specs.Seats.{next_ready, saves, task_on}
use Rattle.table_machine.specs.Events.{saved_by, saved_in}
use Rattle.table_machine.specs.Represents.{seat_of, seats_by, seats_of}

-- core n's seat
pub seat_at : {M : Type 0} → (f : ℕ → Core M → Seat M) → ((k : ℕ) → f k Idle ≡ Vacant) → (cores : List (Core M)) (n : ℕ) → get_or (seats_by f cores) n Vacant ≡ f n (get_or cores n Idle)
seat_at f v [] n = sym (v n)
seat_at f v (c ∷ cores) zero = refl
seat_at f v (c ∷ cores) (suc n) = seat_at (λ k. f (suc k)) (λ k. v (suc k)) cores n

-- as many seats as cores
pub length-seats : {M : Type 0} → (f : ℕ → Core M → Seat M) (cores : List (Core M)) → length (seats_by f cores) ≡ length cores
length-seats f [] = refl
length-seats f (c ∷ cores) = ap suc (length-seats (λ k. f (suc k)) cores)

-- with another seat for core n, where the other seats stay
pub set-seat : {M : Type 0} → (f g : ℕ → Core M → Seat M) (cores : List (Core M)) (n : ℕ) (d : Core M) → ((k : ℕ) → (k ≡ n → ⊥) → f k (get_or cores k Idle) ≡ g k (get_or cores k Idle)) →
    set (seats_by f cores) n (g n d) ≡ seats_by g (set cores n d)
set-seat {M} f g [] n d h = refl
set-seat {M} f g (c ∷ cores) zero d h = ap (λ seats. g zero d ∷ seats) (same-seats (λ k. f (suc k)) (λ k. g (suc k)) cores (λ k. h (suc k) (λ e. absurd (omega (arith, e)))))
  where
    same-seats : (f g : ℕ → Core M → Seat M) (cores : List (Core M)) → ((k : ℕ) → f k (get_or cores k Idle) ≡ g k (get_or cores k Idle)) → seats_by f cores ≡ seats_by g cores
    same-seats f g [] h = refl
    same-seats f g (c ∷ cores) h = ap₂ (λ (x : Seat M) (xs : List (Seat M)). x ∷ xs) (h zero) (same-seats (λ k. f (suc k)) (λ k. g (suc k)) cores (λ k. h (suc k)))
set-seat {M} f g (c ∷ cores) (suc n) d h = ap₂ (λ (x : Seat M) (xs : List (Seat M)). x ∷ xs) (h zero (λ e. absurd (omega (arith, e)))) (set-seat (λ k. f (suc k)) (λ k. g (suc k)) cores n d (λ k ne. h (suc k) (λ e. ne (omega (arith, e)))))

-- whether some other seat is such
pub any-others : {M : Type 0} → (f : ℕ → Core M → Seat M) (p : Seat M → Bool) (q : Core M → Bool) → ((k : ℕ) (c : Core M) → p (f k c) ≡ q c) → (cores : List (Core M)) (n : ℕ) → list_any p (all_but n (seats_by f cores)) ≡ list_any q (all_but n cores)
any-others {M} f p q h [] n = refl
any-others {M} f p q h (c ∷ cores) zero = any-seats (λ k. f (suc k)) (λ k. h (suc k)) cores
  where
    any-seats : (f : ℕ → Core M → Seat M) → ((k : ℕ) (c : Core M) → p (f k c) ≡ q c) → (cores : List (Core M)) → list_any p (seats_by f cores) ≡ list_any q cores
    any-seats f h [] = refl
    any-seats f h (c ∷ cores) = ap₂ (λ a b. a || b) (h zero c) (any-seats (λ k. f (suc k)) (λ k. h (suc k)) cores)
any-others {M} f p q h (c ∷ cores) (suc n) = ap₂ (λ a b. a || b) (h zero c) (any-others (λ k. f (suc k)) p q (λ k. h (suc k)) cores n)

-- the task of a seat is its core's
pub task-same : {M : Type 0} → (base : DeviceState) (history : List FinishRecord) (kept : Kept) (index : Index) (k : ℕ) (c : Core M) → task_on (seat_of base history kept index k c) ≡ held_by c
task-same base history kept index k Idle = refl
task-same base history kept index k (Running a) = refl
task-same base history kept index k (Copying a copied) = refl
task-same base history kept index k (Ready a outcome) = refl
task-same base history kept index k (Committing i left) = refl

-- the next task
pub next-same : {M : Type 0} → (base : DeviceState) (history : List FinishRecord) (kept : Kept) (index : Index) (cores : List (Core M)) (n : ℕ) (tasks : List TaskRec) →
    next_ready (all_but n (seats_of base history kept index cores)) tasks ≡ next_task (all_but n cores) tasks
next-same base history kept index cores n [] = refl
next-same base history kept index cores n (t ∷ tasks) =
    ap₂ (λ b x. cond b x (Some t)) (any-others (seat_of base history kept index) (λ c. is_task (task_on c) t.id) (λ c. is_task (held_by c) t.id) (λ k c. ap (λ x. is_task x t.id) (task-same base history kept index k c)) cores n)
    (next-same base history kept index cores n tasks)

-- whether a core is committing
pub saves-same : {M : Type 0} → (base : DeviceState) (history : List FinishRecord) (kept : Kept) (index : Index) (cores : List (Core M)) (n : ℕ) → list_any saves (all_but n (seats_of base history kept index cores)) ≡ is_committing (all_but n cores)
saves-same {M} base history kept index cores n = any-others (seat_of base history kept index) saves commits at cores n
  where
    at : (k : ℕ) (c : Core M) → saves (seat_of base history kept index k c) ≡ commits c
    at k Idle = refl
    at k (Running a) = refl
    at k (Copying a copied) = refl
    at k (Ready a outcome) = refl
    at k (Committing i left) = refl

-- the finish that has not joined
pub saved-same : {M : Type 0} → (base : DeviceState) (history : List FinishRecord) (kept : Kept) (index : Index) (cores : List (Core M)) → saved_in (seats_of base history kept index cores) ≡ durable_commit cores
saved-same {M} base history kept index cores = go (seat_of base history kept index) at cores
  where
    at : (k : ℕ) (c : Core M) → saved_by (seat_of base history kept index k c) ≡ finished_by c
    at k Idle = refl
    at k (Running a) = refl
    at k (Copying a copied) = refl
    at k (Ready a outcome) = refl
    at k (Committing i zero) = refl
    at k (Committing i (suc left)) = refl

    go : (f : ℕ → Core M → Seat M) → ((k : ℕ) (c : Core M) → saved_by (f k c) ≡ finished_by c) → (cores : List (Core M)) → saved_in (seats_by f cores) ≡ durable_commit cores
    go f h [] = refl
    go f h (c ∷ cores) = ap₂ (λ (x y : Option FinishRecord). option_or x y) (h zero c) (go (λ k. f (suc k)) (λ k. h (suc k)) cores)

-- seats after a failure
pub vacant-seats : {M : Type 0} → (f : ℕ → Core M → Seat M) → ((k : ℕ) → f k Idle ≡ Vacant) → (n : ℕ) → replicate n Vacant ≡ seats_by f (replicate n Idle)
vacant-seats {M} f v zero = refl
vacant-seats {M} f v (suc n) = ap₂ (λ (x : Seat M) (xs : List (Seat M)). x ∷ xs) (sym (v zero)) (vacant-seats (λ k. f (suc k)) (λ k. v (suc k)) n)

-- pins by number
views-shift : {M : Type 0} → (base : DeviceState) (history : List FinishRecord) (pins : ℕ → ℕ) (k : ℕ) (cores : List (Core M)) → views_of base history pins (suc k) cores ≡ views_of base history (λ j. pins (suc j)) k cores
views-shift base history pins k [] = refl
views-shift base history pins k (c ∷ cores) = ap (with_view (view_of base history (pins (suc k)) c)) (views-shift base history pins (suc k) cores)

-- what a seat needs is what its core needs
pub view-same : {M : Type 0} → (base : DeviceState) (history : List FinishRecord) (kept : Kept) (index : Index) (k : ℕ) (c : Core M) → view_by (seat_of base history kept index k c) ≡ view_of base history (kept.pins k) c
view-same {M} base history kept index k Idle = refl
view-same {M} base history kept index k (Running a) = refl
view-same {M} base history kept index k (Copying a copied) = go a.reads refl
  where
    go : (reads : List Read) → a.reads ≡ reads → view_by (seat_of base history kept index k (Copying a copied)) ≡ view_of base history (kept.pins k) (Copying a copied)
    go [] e = rw e refl
    go (r ∷ reads) e = rw e refl
view-same {M} base history kept index k (Ready a outcome) = refl
view-same {M} base history kept index k (Committing i left) = refl

-- what the other seats need is what the cores but one need
pub views-same : {M : Type 0} → (base : DeviceState) (history : List FinishRecord) (kept : Kept) (index : Index) (cores : List (Core M)) (n : ℕ) →
    views_in (all_but n (seats_of base history kept index cores)) ≡ views_of base history kept.pins 0 (set cores n Idle)
views-same {M} base history kept index cores n = others (seat_of base history kept index) kept.pins (view-same base history kept index) cores n
  where
    all : (f : ℕ → Core M → Seat M) (pins : ℕ → ℕ) → ((k : ℕ) (c : Core M) → view_by (f k c) ≡ view_of base history (pins k) c) → (cores : List (Core M)) → views_in (seats_by f cores) ≡ views_of base history pins 0 cores
    all f pins h [] = refl
    all f pins h (c ∷ cores) = ap₂ with_view (h zero c) (all (λ k. f (suc k)) (λ k. pins (suc k)) (λ k. h (suc k)) cores ∙ sym (views-shift base history pins 0 cores))

    others : (f : ℕ → Core M → Seat M) (pins : ℕ → ℕ) → ((k : ℕ) (c : Core M) → view_by (f k c) ≡ view_of base history (pins k) c) → (cores : List (Core M)) (n : ℕ) →
        views_in (all_but n (seats_by f cores)) ≡ views_of base history pins 0 (set cores n Idle)
    others f pins h [] n = refl
    others f pins h (c ∷ cores) zero = all (λ k. f (suc k)) (λ k. pins (suc k)) (λ k. h (suc k)) cores ∙ sym (views-shift base history pins 0 cores)
    others f pins h (c ∷ cores) (suc n) = ap₂ with_view (h zero c) (others (λ k. f (suc k)) (λ k. pins (suc k)) (λ k. h (suc k)) cores n ∙ sym (views-shift base history pins 0 (set cores n Idle)))

-- what is kept of an object of the set
pub chain-each : (f : ℕ → Chain) (n o : ℕ) → o < n → chain_at (each_from 0 n f) o ≡ f o
chain-each f n o l = from 0 n o l ∙ (let z : 0 + o ≡ o = omega arith in ap f z)
  where
    from : (k n o : ℕ) → o < n → chain_at (each_from k n f) o ≡ f (k + o)
    from k zero o l = absurd (omega (arith, l))
    from k (suc n) zero l = let z : k ≡ k + 0 = omega arith in ap f z
    from k (suc n) (suc o) l = from (k + 1) n o (omega (arith, l)) ∙ (let z : k + 1 + o ≡ k + suc o = omega arith in ap f z)

-- the same for each object
pub each-same : {A : Type 0} → (f g : ℕ → A) (n : ℕ) → ((o : ℕ) → o < n → f o ≡ g o) → each_from 0 n f ≡ each_from 0 n g
each-same {A} f g n h = from 0 n (λ o l m. h o (omega (arith, m)))
  where
    from : (k n : ℕ) → ((o : ℕ) → k ≤ o → o < k + n → f o ≡ g o) → each_from k n f ≡ each_from k n g
    from k zero h = refl
    from k (suc n) h = ap₂ (λ (x : A) (xs : List A). x ∷ xs) (h k (omega arith) (omega arith)) (from (k + 1) n (λ o l m. h o (omega (arith, l)) (omega (arith, m))))

-- as many as are asked for
pub length-each : {A : Type 0} → (f : ℕ → A) (k n : ℕ) → length (each_from k n f) ≡ n
length-each f k zero = refl
length-each f k (suc n) = ap suc (length-each f (k + 1) n)

-- the slots after a finish, by two plans that agree
pub slots-same : (p q : ℕ → ℕ) (ws : List Write) (o : ℕ) (slots : List ℕ) → ((k : ℕ) → o ≤ k → k < o + length slots → p k ≡ q k) → slots_after p ws o slots ≡ slots_after q ws o slots
slots-same p q ws o [] h = refl
slots-same p q ws o (slot ∷ slots) h =
    ap₂ (λ (a : ℕ) (rest : List ℕ). cond (is_some (written ws o)) a slot ∷ rest) (h o (omega arith) (omega arith)) (slots-same p q ws (o + 1) slots (λ k l m. h k (omega (arith, l)) (omega (arith, m))))

-- the seats of cores that are seen alike
pub seats-alike : {M : Type 0} → (f g : ℕ → Core M → Seat M) (cores : List (Core M)) → ((k : ℕ) → f k (get_or cores k Idle) ≡ g k (get_or cores k Idle)) → seats_by f cores ≡ seats_by g cores
seats-alike f g [] h = refl
seats-alike {M} f g (c ∷ cores) h = ap₂ (λ (x : Seat M) (xs : List (Seat M)). x ∷ xs) (h zero) (seats-alike (λ k. f (suc k)) (λ k. g (suc k)) cores (λ k. h (suc k)))

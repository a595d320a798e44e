-- The parts that wait and push a GUID, in the index and in the machine.
use Rattle.std.proofs.Common.{◌≡◌, ℕ, Bool, true, false, not, ◌&&◌, ◌||◌, cond, List, [], ◌∷◌, length, ap, refl, ◌∙◌, filter, ◌==◌}
use Rattle.std.proofs.lemmas.Bool.Decides.{Decides-eqb}
use Rattle.pi_base.specs.{declared.guid.Guid.Guid, declared.phase.Phase.Phase}
use Rattle.pi_base.specs.declared.phase.Phase.TheVariants.{Pei, Dxe}
use Rattle.mod_catalog.specs.{declared.catalogue.Catalog.Catalog, Parts.has_number}
use Rattle.boot_model.specs.{DxeChoice.is_waiting, DxeChoice.discovered_order, DxeMachine.DxeMachine, PeiMachine.PeiMachine}
use Rattle.boot_model.specs.EvaluationBound.{part_pushes, pei_asked, dxe_asked}
use Rattle.wait_index.specs.{declared.index.WaitIndex.WaitIndex, Dispatch.StandsForPei, Dispatch.StandsForDxe}
use Rattle.wait_index.specs.Index.{order_in, waits_in, asked}

here_first : (x : ℕ) (xs : List ℕ) → has_number (x ∷ xs) x ≡ true
here_first x xs = ap (λ b. b || has_number xs x) ((Decides-eqb x x).1 refl)

or_later : (a b : Bool) → b ≡ true → (a || b) ≡ true
or_later true b e = refl
or_later false b e = e

filter_within : (test other : ℕ → Bool) (xs : List ℕ) → ((x : ℕ) → has_number xs x ≡ true → test x ≡ other x) → filter test xs ≡ filter other xs
filter_within test other [] h = refl
filter_within test other (x ∷ xs) h =
    let rest = filter_within test other xs (λ y e. h y (or_later (x == y) (has_number xs y) e)) in
    ap (λ b. cond b (x ∷ filter test xs) (filter test xs)) (h x (here_first x xs)) ∙ ap (λ ys. cond (other x) (x ∷ ys) ys) rest

pub pei_asks : (catalog : Catalog) (m : PeiMachine) (index : WaitIndex) → StandsForPei catalog m index → (guid : Guid) → asked catalog index guid ≡ pei_asked catalog m guid
pei_asks catalog m index stands guid =
    let pushes : Phase → ℕ → Bool = λ p. part_pushes p catalog guid in
    ap length (filter_within (λ n. waits_in index n && pushes index.phase n) (λ n. not (has_number m.started n) && pushes index.phase n) (order_in index)
    (λ n e. ap (λ b. b && pushes index.phase n) (stands.waits n e)))
    ∙ ap (λ (p : Phase). length (filter (λ n. not (has_number m.started n) && pushes p n) (order_in index))) stands.phase
    ∙ ap (λ (order : List ℕ). length (filter (λ n. not (has_number m.started n) && pushes Pei n) order)) stands.order

filter_twice : (first then : ℕ → Bool) (xs : List ℕ) → filter (λ n. first n && then n) xs ≡ filter then (filter first xs)
filter_twice first then [] = refl
filter_twice first then (x ∷ xs) = by (first x) (filter_twice first then xs)
  where
    by : (b : Bool) → filter (λ n. first n && then n) xs ≡ filter then (filter first xs)
        → cond (b && then x) (x ∷ filter (λ n. first n && then n) xs) (filter (λ n. first n && then n) xs) ≡ filter then (cond b (x ∷ filter first xs) (filter first xs))
    by true e = ap (λ ys. cond (then x) (x ∷ ys) ys) e
    by false e = e

pub dxe_asks : (catalog : Catalog) (m : DxeMachine) (index : WaitIndex) → StandsForDxe catalog m index → (guid : Guid) → asked catalog index guid ≡ dxe_asked catalog m guid
dxe_asks catalog m index stands guid =
    let pushes : Phase → ℕ → Bool = λ p. part_pushes p catalog guid in
    ap length (filter_within (λ n. waits_in index n && pushes index.phase n) (λ n. is_waiting m n && pushes index.phase n) (order_in index)
    (λ n e. ap (λ b. b && pushes index.phase n) (stands.waits n e)))
    ∙ ap (λ (p : Phase). length (filter (λ n. is_waiting m n && pushes p n) (order_in index))) stands.phase
    ∙ ap (λ (order : List ℕ). length (filter (λ n. is_waiting m n && pushes Dxe n) order)) stands.order
    ∙ ap length (filter_twice (is_waiting m) (pushes Dxe) (discovered_order catalog m))

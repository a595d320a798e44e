-- Drivers are found one by one.
use Rattle.std.proofs.Common.{◌≡◌, ℕ, true, false, cond, List, [], ◌∷◌, ◌++◌, ◌-◌, ◌<◌, ◌≤◌, ◌==◌, nat_lt, is_some, map, filter, length, sym, ap, arith, ◌∙◌}
use Rattle.std.proofs.lemmas.Bool.Decides.{nat_tests}
use Rattle.std.proofs.lemmas.List.{append-nil, append_assoc}
use Rattle.mod_catalog.specs.declared.catalogue.Module.{Module}
use Rattle.program_edge.specs.{declared.noted_volumes.NotedVolume.NotedVolume, BootStory.drivers_in, NotedVolumes.driver_volumes}

pub driver_on : (found : List ℕ) (rest after : List Module) (entry : Module) → rest ≡ entry ∷ after → is_some entry.dxe ≡ true
    → found ++ driver_volumes rest ≡ (found ++ entry.volume ∷ []) ++ driver_volumes after
driver_on found rest after entry here is_so =
    let one : driver_volumes (entry ∷ after) ≡ entry.volume ∷ driver_volumes after =
    ap (λ b. map (λ m. m.volume) (cond b (entry ∷ filter (λ m. is_some m.dxe) after) (filter (λ m. is_some m.dxe) after))) is_so in
    ap (λ all. found ++ driver_volumes all) here ∙ ap (λ all. found ++ all) one ∙ sym (append_assoc found (entry.volume ∷ []) (driver_volumes after))

pub no_driver : (rest after : List Module) (entry : Module) → rest ≡ entry ∷ after → is_some entry.dxe ≡ false → driver_volumes rest ≡ driver_volumes after
no_driver rest after entry here is_not =
    ap driver_volumes here
    ∙ ap (λ b. map (λ m. m.volume) (cond b (entry ∷ filter (λ m. is_some m.dxe) after) (filter (λ m. is_some m.dxe) after))) is_not

pub all_found : (found : List ℕ) (rest : List Module) → rest ≡ [] → found ++ driver_volumes rest ≡ found
all_found found rest none = ap (λ all. found ++ driver_volumes all) none ∙ append-nil found

-- the volumes are passed until the one with the number
pub drivers_here : (volumes rest after : List NotedVolume) (first : NotedVolume) (volume number result : ℕ) → rest ≡ first ∷ after → number < first.count
    → result ≡ length (filter (λ n. n == number) first.drivers) → drivers_in volumes volume ≡ drivers_in rest number → result ≡ drivers_in volumes volume
drivers_here volumes rest after first volume number result here few is known =
    let is_so : nat_lt number first.count ≡ true = grind (arith, nat_tests) in
    is
    ∙ sym (ap (λ b. cond b (length (filter (λ n. n == number) first.drivers)) (drivers_in after (number - first.count))) is_so)
    ∙ sym (ap (λ all. drivers_in all number) here)
    ∙ sym known

pub drivers_later : (volumes rest after : List NotedVolume) (first : NotedVolume) (volume number : ℕ) → rest ≡ first ∷ after → first.count ≤ number
    → drivers_in volumes volume ≡ drivers_in rest number → drivers_in volumes volume ≡ drivers_in after (number - first.count)
drivers_later volumes rest after first volume number here many known =
    let is_not : nat_lt number first.count ≡ false = grind (arith, nat_tests) in
    known
    ∙ ap (λ all. drivers_in all number) here
    ∙ ap (λ b. cond b (length (filter (λ n. n == number) first.drivers)) (drivers_in after (number - first.count))) is_not

pub drivers_nowhere : (volumes rest : List NotedVolume) (volume number : ℕ) → rest ≡ [] → drivers_in volumes volume ≡ drivers_in rest number
    → 0 ≡ drivers_in volumes volume
drivers_nowhere volumes rest volume number none known = sym (known ∙ ap (λ all. drivers_in all number) none)

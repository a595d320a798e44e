-- Lines that tell of no start.
use Rattle.std.proofs.Common.{◌≡◌, List, [], ◌∷◌, ◌++◌, map, flat_map, Option, Some, None, refl, ap, ◌∙◌, option_to_list, option_map}
use Rattle.boot_model.specs.declared.line.Line.{Line}
use Rattle.recorded_boot.specs.Starts.{start_of, starts}
use Rattle.recorded_boot.proofs.Fronts.{starts-append}

pub quiet_then : (line : Line) (lines : List Line) → start_of line ≡ None → starts lines ≡ [] → starts (line ∷ lines) ≡ []
quiet_then line lines is rest = ap (λ o. option_to_list o ++ starts lines) is ∙ rest

pub quiet_map : {X : Type 0} (f : X → Line) (xs : List X) → ((x : X) → start_of (f x) ≡ None) → starts (map f xs) ≡ []
quiet_map f [] is = refl
quiet_map f (x ∷ xs) is = quiet_then (f x) (map f xs) (is x) (quiet_map f xs is)

pub quiet_flat : {X : Type 0} (f : X → List Line) (xs : List X) → ((x : X) → starts (f x) ≡ []) → starts (flat_map f xs) ≡ []
quiet_flat f [] is = refl
quiet_flat f (x ∷ xs) is = starts-append (f x) (flat_map f xs) ∙ ap (λ s. s ++ starts (flat_map f xs)) (is x) ∙ quiet_flat f xs is

pub quiet_option : {X : Type 0} (f : X → Line) (o : Option X) → ((x : X) → start_of (f x) ≡ None) → starts (option_to_list (option_map f o)) ≡ []
quiet_option f None is = refl
quiet_option f (Some x) is = ap (λ o. option_to_list o ++ []) (is x)

-- Worked resource HOBs, computed by the definitions. PI 1.8, volume 3, `EFI_RESOURCE_TYPE`.
use Rattle.std.proofs.Common.{◌≡◌, ℕ, List, [], ◌∷◌, ◌++◌, map, refl, Some, None, replicate, option_map}
use Rattle.gcd_map.specs.declared.state.GcdKind.TheVariants.{Reserved, System, Mmio}
use Rattle.gcd_map.specs.HobMap.{resource_at}

-- a resource HOB of a type: 48 bytes, 0x10000 addresses from 0x1000 on, no owner and no attributes
abbrev resource_of_type : ℕ → List ℕ
resource_of_type kind = 3 ∷ 0 ∷ 48 ∷ 0 ∷ replicate 20 0 ++ (kind ∷ 0 ∷ 0 ∷ 0 ∷ replicate 4 0) ++ (0 ∷ 16 ∷ replicate 6 0) ++ (0 ∷ 0 ∷ 1 ∷ replicate 5 0)

-- system memory, devices, I/O, a firmware device, a port in memory, reserved memory, reserved I/O, and no type
kinds_of_types : map (λ kind. option_map (λ s. s.kind) (resource_at (resource_of_type kind) 0)) (0 ∷ 1 ∷ 2 ∷ 3 ∷ 4 ∷ 5 ∷ 6 ∷ 7 ∷ [])
    ≡ Some System ∷ Some Mmio ∷ None ∷ Some Mmio ∷ Some Reserved ∷ Some Reserved ∷ None ∷ None ∷ []
kinds_of_types = refl

port_is_reserved : resource_at (resource_of_type 4) 0 ≡ Some (record { at = 0; kind = Reserved; base = 4096; len = 65536 })
port_is_reserved = refl

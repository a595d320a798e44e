-- The way from a driver to the one to which its names lead.
use Rattle.std.proofs.Common.{◌≡◌, ℕ, zero, suc, ◌<◌, ◌≤◌, ◌+◌, ◌-◌, Some, None, refl, ap, ◌∙◌, arith}
use Rattle.mod_catalog.specs.declared.catalogue.Catalog.{Catalog}
use Rattle.boot_model.specs.{DriverLicence.target_of, DxeMachine.DxeMachine}
use Rattle.boot_laws.specs.DxeAim.{follows}

-- a step on the way to the root
pub follows_more : (catalog : Catalog) (m : DxeMachine) (n number target : ℕ) → target_of catalog m number ≡ Some target → follows catalog m (suc n) number ≡ follows catalog m n target
follows_more catalog m n number target is = ap (λ o. elim o as (λ _. ℕ) [ None ↦ number | Some t ↦ follows catalog m n t ]) is

pub follows_end : (catalog : Catalog) (m : DxeMachine) (n number : ℕ) → target_of catalog m number ≡ None → follows catalog m n number ≡ number
follows_end catalog m zero number is = refl
follows_end catalog m (suc n) number is = ap (λ o. elim o as (λ _. ℕ) [ None ↦ number | Some t ↦ follows catalog m n t ]) is

-- one name nearer to the root
pub follows_left : (catalog : Catalog) (m : DxeMachine) (all counter number target : ℕ) → counter < all → target_of catalog m number ≡ Some target → follows catalog m (all - counter) number ≡ follows catalog m (all - (counter + 1)) target
follows_left catalog m all counter number target below is =
    let one : all - counter ≡ suc (all - (counter + 1)) = omega (arith, below) in ap (λ n. follows catalog m n number) one ∙ follows_more catalog m (all - (counter + 1)) number target is

pub none_left : (catalog : Catalog) (m : DxeMachine) (all counter number : ℕ) → all ≤ counter → follows catalog m (all - counter) number ≡ number
none_left catalog m all counter number out = let none : all - counter ≡ 0 = omega (arith, out) in ap (λ n. follows catalog m n number) none

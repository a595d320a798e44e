-- What reading gives, by its steps.
use Rattle.std.proofs.Common.{◌≡◌, ℕ, ◌+◌, Option, None, refl, List}
use Rattle.hob_codec.specs.{declared.fault.HobFault.HobFault, HobValue.HobValue}
use Rattle.hob_codec.specs.HobReading.{reading, formed, hob_of, header_fault, kind_at, length_at, body_at}

pub reading_is : (bytes : List ℕ) (at kind len : ℕ) (body : List ℕ) (hob : Option HobValue) → ◌≡◌ {A = Option HobFault} None (header_fault bytes at) → kind ≡ kind_at bytes at → len ≡ length_at bytes at → body ≡ body_at bytes at
    → hob ≡ hob_of kind body → reading bytes at ≡ formed hob (at + len)
reading_is bytes at kind len body hob sound k l b h = rw (← sound, h, k, l, b) refl

use Rattle.std.proofs.Common.{◌≡◌, ℕ, ◌≤◌, ◌+◌, true, List, [], ◌∷◌, length, get_or, sym, ap, ◌∙◌, arith}
use Rattle.act_code.specs.Header.{header_at, fields_of, is_magic}
use Rattle.act_code.proofs.header.read_header.Goals as goal

-- eight bytes or more with the magic at their head
read : (bytes : List ℕ) → 8 ≤ length bytes → is_magic (get_or bytes 0 0) (get_or bytes 1 0) (get_or bytes 2 0) (get_or bytes 3 0) ≡ true
    → fields_of (length bytes) (get_or bytes 4 0) (get_or bytes 5 0) (get_or bytes 6 0) (get_or bytes 7 0) ≡ header_at bytes
read [] long magic = absurd (omega (arith, long))
read (a ∷ []) long magic = absurd (omega (arith, long))
read (a ∷ b ∷ []) long magic = absurd (omega (arith, long))
read (a ∷ b ∷ c ∷ []) long magic = absurd (omega (arith, long))
read (a ∷ b ∷ c ∷ d ∷ []) long magic = absurd (omega (arith, long))
read (a ∷ b ∷ c ∷ d ∷ version ∷ []) long magic = absurd (omega (arith, long))
read (a ∷ b ∷ c ∷ d ∷ version ∷ phase ∷ []) long magic = absurd (omega (arith, long))
read (a ∷ b ∷ c ∷ d ∷ version ∷ phase ∷ blocks ∷ []) long magic = absurd (omega (arith, long))
read (a ∷ b ∷ c ∷ d ∷ version ∷ phase ∷ blocks ∷ last ∷ rest) long magic =
    let size : length (a ∷ b ∷ c ∷ d ∷ version ∷ phase ∷ blocks ∷ last ∷ rest) ≡ 8 + length rest = omega arith in
    rw magic (ap (λ (n : ℕ). fields_of n version phase blocks last) size)

pub returns-in-len8-up : goal.returns-in-len8-up
returns-in-len8-up c = c.fields.ensures ∙ read c.args.bytes.now c.in-len8-up.len_at_least (sym c.is_magic.ensures ∙ c.if-is_magic.true)

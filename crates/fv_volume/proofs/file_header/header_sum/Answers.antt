use Rattle.std.proofs.Common.{◌≡◌, ℕ, ◌+◌, ◌%◌, ap, ◌∙◌, arith, drop, length-drop, sum, take_all}
use Rattle.fv_volume.proofs.file_header.header_sum.Goals as goal

sums : (a b c x y z : ℕ) → x ≡ a % 256 → y ≡ b % 256 → z ≡ c % 256 → ((x + y) % 256 + z) % 256 ≡ (a + b + c) % 256
sums a b c x y z p q r = omega arith

pub returns : goal.returns
returns c =
    let header = c.args.header.now in
    sums _ _ _ c.sum8.result c.sum8-2.result c.sum8-3.result c.sum8.ensures c.sum8-2.ensures
    (c.sum8-3.ensures ∙ ap (λ xs. sum xs % 256) (take_all _ (drop 24 header) (omega (arith, length-drop 24 header))))

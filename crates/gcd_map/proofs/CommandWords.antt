-- The command of words that are read one after another.
use Rattle.std.proofs.Common.{◌≡◌, ℕ, Bool, cond, Option, Some, None, refl}
use Rattle.std.proofs.lemmas.Bool.{cond_both}
use Rattle.gcd_map.specs.{declared.state.GcdKind.GcdKind, declared.command.Command.Command}
use Rattle.gcd_map.specs.declared.command.Command.TheVariants.{Add, Allocate, Top, Free, Remove}
use Rattle.gcd_map.specs.CommandText.{align_in, of_two, of_three}

-- a choice of none
neither : (b : Bool) (x y : Option Command) → None ≡ x → None ≡ y → None ≡ cond b x y
neither b x y p q = cond_both b x y (λ r. None ≡ r) (λ _. p) (λ _. q)

no_second : (command : ℕ → ℕ → Command) (first second : Option ℕ) → second ≡ None → None ≡ of_two command first second
no_second command None second e = refl
no_second command (Some first) second e = rw e refl

-- a word that is not read gives no command, whatever the name
pub no_kind : (add allocate top : Bool) (kind : Option GcdKind) (second align len : Option ℕ) → kind ≡ None
    → None ≡ cond add (of_three (λ k b l. Add k b l) kind second len) (cond allocate (of_three (λ k b l. Allocate k b l) kind second len) (cond top (of_three (λ k a l. Top k a l) kind align len) None))
no_kind add allocate top kind second align len e = rw e (neither add _ _ refl (neither allocate _ _ refl (neither top _ _ refl refl)))

no_middle : (command : GcdKind → ℕ → ℕ → Command) (kind : Option GcdKind) (len : Option ℕ) → None ≡ of_three command kind None len
no_middle command None len = refl
no_middle command (Some kind) len = refl

pub no_number : (add allocate top : Bool) (kind : Option GcdKind) (second len : Option ℕ) → second ≡ None
    → None ≡ cond add (of_three (λ k b l. Add k b l) kind second len) (cond allocate (of_three (λ k b l. Allocate k b l) kind second len) (cond top (of_three (λ k a l. Top k a l) kind (align_in second) len) None))
no_number add allocate top kind second len e =
    rw e (neither add _ _ (no_middle (λ k b l. Add k b l) kind len) (neither allocate _ _ (no_middle (λ k b l. Allocate k b l) kind len)
    (neither top _ _ (no_middle (λ k a l. Top k a l) kind len) refl)))

no_third : (command : GcdKind → ℕ → ℕ → Command) (kind : Option GcdKind) (second len : Option ℕ) → len ≡ None → None ≡ of_three command kind second len
no_third command None second len e = refl
no_third command (Some kind) second len e = no_second (command kind) second len e

pub no_len : (add allocate top : Bool) (kind : Option GcdKind) (second align len : Option ℕ) → len ≡ None
    → None ≡ cond add (of_three (λ k b l. Add k b l) kind second len) (cond allocate (of_three (λ k b l. Allocate k b l) kind second len) (cond top (of_three (λ k a l. Top k a l) kind align len) None))
no_len add allocate top kind second align len e =
    neither add _ _ (no_third (λ k b l. Add k b l) kind second len e) (neither allocate _ _ (no_third (λ k b l. Allocate k b l) kind second len e)
    (neither top _ _ (no_third (λ k a l. Top k a l) kind align len e) refl))

pub no_first : (free remove : Bool) (base len : Option ℕ) → base ≡ None
    → None ≡ cond free (of_two (λ b l. Free b l) base len) (cond remove (of_two (λ b l. Remove b l) base len) None)
no_first free remove base len e = rw e (neither free _ _ refl (neither remove _ _ refl refl))

pub no_last : (free remove : Bool) (base len : Option ℕ) → len ≡ None
    → None ≡ cond free (of_two (λ b l. Free b l) base len) (cond remove (of_two (λ b l. Remove b l) base len) None)
no_last free remove base len e = neither free _ _ (no_second (λ b l. Free b l) base len e) (neither remove _ _ (no_second (λ b l. Remove b l) base len e) refl)

-- Reading a script from left to right, with the first fault that is met.
use Rattle.std.specs.Prelude.{◌≡◌, ℕ, zero, suc, ◌-◌, Bool, false, ◌&&◌, ⊤, List, [], ◌∷◌, length, drop, slice_get, Option, Some, None, Result, Ok, Err, nat_le, ◌==◌, if◌then◌else◌}
use Rattle.std.specs.Option.{option_map_or}
use Rattle.pi_base.specs.Field.{little_number}
use Rattle.act_code.specs.{declared.header.Header.Header, declared.script.Script.Script, declared.action.Action.Action}
use Rattle.act_code.specs.{declared.fault.ActFault.ActFault, declared.fault.ActCause.ActCause, declared.block.Stop.Stop, Format.is_within}
use Rattle.act_code.specs.declared.fault.ActCause.TheVariants as cause
use Rattle.act_code.specs.declared.block.Stop.TheVariants as stop
use Rattle.act_code.specs.Index.{is_indexed, has_room, is_ret}
use Rattle.act_code.specs.{Header.header_at, Header.fault_of, Reading.action_at}

infixl 10 ◌>>=◌
abbrev pub ◌>>=◌ : {A B : Type 0} → Result A ActFault → (A → Result B ActFault) → Result B ActFault
(Ok x) >>= f = f x
(Err e) >>= f = Err e

-- what a function returned, seen by view, is what reading gives, unless memory ran out
abbrev pub Stops : {Y : Type 0} → Stop → Result Y ActFault → Type 0
Stops stop.Memory read = ⊤
Stops (stop.Fault f) read = read ≡ Err f

abbrev pub Gives : {X Y : Type 0} → (X → Y) → Result X Stop → Result Y ActFault → Type 0
Gives view (Ok x) read = read ≡ Ok (view x)
Gives view (Err e) read = Stops e read

-- a fault when so many bytes are left
abbrev pub fault_at : ℕ → ActCause → List ℕ → ActFault
fault_at size c rest = fault_of (size - length rest) c

-- an action that was read, with so many actions of its block left
unfoldable pub checked : Header → ℕ → List ℕ → Option (Action × List ℕ) → Result (Action × List ℕ) ActFault
checked header left bytes None = Err (fault_at header.size cause.Action bytes)
checked header left bytes (Some x) =
    if is_indexed header.blocks x.0 then (if has_room left x.0 then Ok x else Err (fault_at header.size cause.Jump bytes))
    else Err (fault_at header.size cause.Index bytes)

unfoldable pub checked_at : Header → ℕ → List ℕ → Result (Action × List ℕ) ActFault
checked_at header left bytes = checked header left bytes (action_at header.phase bytes)

-- so many things, one after the other; each knows how many are left
unfoldable pub many : {A : Type 0} → (ℕ → List ℕ → Result (A × List ℕ) ActFault) → ℕ → List ℕ → Result (List A × List ℕ) ActFault
many one zero bytes = Ok ([], bytes)
many one (suc n) bytes = do
  first ← one (suc n) bytes
  others ← many one n first.1
  Ok (first.0 ∷ others.0, others.1)

unfoldable pub count_at : Header → List ℕ → Result (ℕ × List ℕ) ActFault
count_at header bytes =
    if nat_le 2 (length bytes) && is_within 1 1024 (little_number 2 bytes) then Ok (little_number 2 bytes, drop 2 bytes) else Err (fault_at header.size cause.Block bytes)

-- the last action is ret
abbrev pub ends_in_ret : List Action → Bool
ends_in_ret actions = option_map_or is_ret (slice_get actions (length actions - 1)) false

unfoldable pub block_at : Header → List ℕ → Result (List Action × List ℕ) ActFault
block_at header bytes = do
  count ← count_at header bytes
  actions ← many (checked_at header) count.0 count.1
  if ends_in_ret actions.0 then Ok actions else Err (fault_at header.size cause.Block bytes)

-- the blocks of a script, after its header
unfoldable pub body_at : Header → List ℕ → Result Script ActFault
body_at header bytes = do
  blocks ← many (λ _. block_at header) header.blocks bytes
  if length blocks.1 == 0 then Ok (record { phase = header.phase; blocks = blocks.0 }) else Err (fault_at header.size cause.Count blocks.1)

unfoldable pub script_at : List ℕ → Result Script ActFault
script_at bytes = header_at bytes >>= (λ header. body_at header (drop 8 bytes))

-- Scripts: their bytes, what is a script, and its first fault (own).
use Rattle.std.specs.Prelude.{◌≡◌, ◌≢◌, ℕ, ◌-◌, ◌≤◌, ◌<◌, true, false, ⊤, List, [], ◌∷◌, ◌++◌, length, Result, Ok, Err, ◌⊎◌, All, flat_map}
use Rattle.pi_base.specs.{Field.little_bytes, declared.phase.Phase.Phase, Lists.Begins}
use Rattle.act_code.specs.{declared.header.Header.Header, declared.script.Script.Script, declared.action.Action.Action}
use Rattle.act_code.specs.{declared.fault.ActFault.ActFault, declared.fault.ActCause.ActCause, Index.is_indexed, Index.has_room}
use Rattle.act_code.specs.declared.fault.ActCause.TheVariants as cause
use Rattle.act_code.specs.Format.{spelled, IsInRange, is_within}
use Rattle.act_code.specs.Table.{number_of, is_code_of, format_of, code_of_action, operands}
use Rattle.act_code.specs.{Header.header_bytes, Header.header_at, ScriptReading.fault_at, ScriptReading.ends_in_ret}

-- the operands of an action
abbrev pub operand_bytes : Action → List ℕ
operand_bytes action = spelled (format_of (code_of_action action)) (operands action)

-- an action: its code and its operands
abbrev pub action_bytes : Action → List ℕ
action_bytes action = number_of (code_of_action action) ∷ operand_bytes action

-- a block: the number of its actions, and they
abbrev pub block_bytes : List Action → List ℕ
block_bytes actions = little_bytes 2 (length actions) ++ flat_map action_bytes actions

-- a script: its header and its blocks
abbrev pub script_bytes : Script → List ℕ
script_bytes script = header_bytes script.phase (length script.blocks) ++ flat_map block_bytes script.blocks

-- an action of the phase whose operands keep their ranges
pub record IsAction (phase : Phase) (action : Action) : Type 0 where
  pub of_phase : is_code_of phase (code_of_action action) ≡ true
  pub in_range : IsInRange (format_of (code_of_action action)) (operands action)

-- its registers and blocks exist, and so do the actions that it skips, if so many are left with itself
pub record IsSound (phase : Phase) (count left : ℕ) (action : Action) : Type 0 where
  pub is : IsAction phase action
  pub indexed : is_indexed count action ≡ true
  pub room : has_room left action ≡ true

-- each of the things is good, if so many are left with the first
abbrev pub Each : {A : Type 0} → (ℕ → A → Type 0) → ℕ → List A → Type 0
Each Good left [] = ⊤
Each Good left (x ∷ xs) = Good left x × Each Good (left - 1) xs

-- each of the actions is sound, if so many are left with the first
abbrev pub AreSound : Phase → ℕ → ℕ → List Action → Type 0
AreSound phase count = Each (IsSound phase count)

-- 1 to 1,024 sound actions, the last one a ret
pub record IsBlock (phase : Phase) (count : ℕ) (actions : List Action) : Type 0 where
  pub number : is_within 1 1024 (length actions) ≡ true
  pub sound : AreSound phase count (length actions) actions
  pub ret : ends_in_ret actions ≡ true

abbrev pub AreBlocks : Phase → ℕ → List (List Action) → Type 0
AreBlocks phase count = Each (λ _. IsBlock phase count) count

-- a script but for its length: 1 to 64 blocks
pub record IsInGrammar (script : Script) : Type 0 where
  pub number : is_within 1 64 (length script.blocks) ≡ true
  pub blocks : AreBlocks script.phase (length script.blocks) script.blocks

-- the bytes are a script's
pub record IsScript (bytes : List ℕ) (script : Script) : Type 0 where
  pub spelled : bytes ≡ script_bytes script
  pub grammar : IsInGrammar script
  pub short : length bytes ≤ 65536

-- what is wrong with the action at the front of the bytes, with so many actions of its block left: no action of the phase is there, or the one that does names
-- what is not there, or it skips too many
abbrev pub IsActionFault : Phase → ℕ → ℕ → List ℕ → ActCause → Type 0
IsActionFault phase count left bytes cause.Action = (action : Action) → IsAction phase action → Begins bytes (action_bytes action) → ⊥
IsActionFault phase count left bytes cause.Index =
    (action : Action) × IsAction phase action × Begins bytes (action_bytes action) × (is_indexed count action ≡ false)
IsActionFault phase count left bytes cause.Jump =
    (action : Action) × IsAction phase action × Begins bytes (action_bytes action) × (is_indexed count action ≡ true) × (has_room left action ≡ false)
IsActionFault phase count left bytes _ = ⊥

-- no number of actions is at the front
abbrev pub HasNoCount : List ℕ → Type 0
HasNoCount bytes = (number : ℕ) → is_within 1 1024 number ≡ true → Begins bytes (little_bytes 2 number) → ⊥

-- after its number and sound actions a block has an action at fault
pub record HasActionFault (header : Header) (bytes : List ℕ) (fault : ActFault) : Type 0 where
  pub number : ℕ
  pub before : List Action
  pub rest : List ℕ
  pub counted : is_within 1 1024 number ≡ true
  pub sound : AreSound header.phase header.blocks number before
  pub few : length before < number
  pub here : bytes ≡ little_bytes 2 number ++ (flat_map action_bytes before ++ rest)
  pub wrong : IsActionFault header.phase header.blocks (number - length before) rest fault.cause
  pub place : fault ≡ fault_at header.size fault.cause rest

-- a block of sound actions does not end with ret
pub record HasNoRet (header : Header) (bytes : List ℕ) (fault : ActFault) : Type 0 where
  pub actions : List Action
  pub counted : is_within 1 1024 (length actions) ≡ true
  pub sound : AreSound header.phase header.blocks (length actions) actions
  pub here : Begins bytes (block_bytes actions)
  pub no_ret : ends_in_ret actions ≡ false
  pub place : fault ≡ fault_at header.size cause.Block bytes

-- the first fault of the block at the front
abbrev pub IsBlockFault : Header → List ℕ → ActFault → Type 0
IsBlockFault header bytes fault =
    (HasNoCount bytes × (fault ≡ fault_at header.size cause.Block bytes)) ⊎ (HasActionFault header bytes fault ⊎ HasNoRet header bytes fault)

-- blocks of the header's script, and what follows them
pub record HasBlocks (header : Header) (bytes : List ℕ) (blocks : List (List Action)) (rest : List ℕ) : Type 0 where
  pub are : AreBlocks header.phase header.blocks blocks
  pub here : bytes ≡ header_bytes header.phase header.blocks ++ (flat_map block_bytes blocks ++ rest)

-- the first fault of a script: of its header; or of a block after others; or bytes are left over
abbrev pub IsFault : List ℕ → ActFault → Type 0
IsFault bytes fault =
    (header_at bytes ≡ Err fault)
    ⊎ ((header : Header) × (header_at bytes ≡ Ok header) × (blocks : List (List Action)) × (rest : List ℕ) × HasBlocks header bytes blocks rest
    × (((length blocks < header.blocks) × IsBlockFault header rest fault)
    ⊎ ((length blocks ≡ header.blocks) × (rest ≢ []) × (fault ≡ fault_at header.size cause.Count rest))))

-- why nothing was read: the first fault, or memory ran out
abbrev pub IsRefused : List ℕ → ActFault → Type 0
IsRefused bytes fault = fault.cause ≢ cause.Memory → IsFault bytes fault

-- the answer is the script, or memory ran out
abbrev pub GivesBack : Script → Result Script ActFault → Type 0
GivesBack script (Ok read) = read ≡ script
GivesBack script (Err fault) = fault.cause ≡ cause.Memory

-- an action whose operands keep their ranges, whatever the phase
abbrev pub IsWritable : Action → Type 0
IsWritable action = IsInRange (format_of (code_of_action action)) (operands action)

-- a block whose bytes can be written
abbrev pub IsWritableBlock : List Action → Type 0
IsWritableBlock actions = (length actions < 65536) × All IsWritable actions

-- Bytes that are no line of some forms.
use Rattle.std.specs.Prelude.{◌≢◌, ℕ, List, Option, codes}
use Rattle.pi_base.specs.{declared.guid.Guid.Guid, declared.word.Word.Word}
use Rattle.boot_plan.specs.declared.fault.PlanCause.{PlanCause}
use Rattle.mod_catalog.specs.declared.image_fault.ImageCause.{ImageCause}
use Rattle.boot_model.specs.{declared.licence.Licence.Licence, declared.line.CallName.CallName, declared.line.Extra.Extra}
use Rattle.boot_model.specs.declared.line.Line.TheVariants as L
use Rattle.boot_model.specs.{declared.line.Reason.Reason, declared.line.RunEnd.RunEnd, declared.line.ExpressionWord.ExpressionWord}
use Rattle.arrayvec.specs.declared.array_vec.ArrayVec.{ArrayVec}
use Rattle.trace_reader.specs.Readable.{IsLineOf}

-- the bytes are not one of the lines of reports, starts and notifications
pub record LacksLinesOfStart (bytes : List ℕ) : Type 0 where
  pub report : (volume : ℕ) → IsLineOf bytes (L.Report volume) → ⊥
  pub dxe_volume : (volume : ℕ) → IsLineOf bytes (L.DxeVolume volume) → ⊥
  pub pei_start : (volume : ℕ) (name : Guid) (licence : Licence) → IsLineOf bytes (L.PeiStart volume name licence) → ⊥
  pub dxe_start : (volume : ℕ) (name : Guid) (licence : Licence) → IsLineOf bytes (L.DxeStart volume name licence) → ⊥

-- the bytes are not one of the lines of notifications
pub record LacksLinesOfNotify (bytes : List ℕ) : Type 0 where
  pub callback : (volume : ℕ) (name : Guid) (fired : Guid) → IsLineOf bytes (L.NotifyCallback volume name fired) → ⊥
  pub dispatch : (volume : ℕ) (name : Guid) (fired : Guid) → IsLineOf bytes (L.NotifyDispatch volume name fired) → ⊥
  pub protocol : (volume : ℕ) (name : Guid) (fired : Guid) → IsLineOf bytes (L.NotifyProtocol volume name fired) → ⊥

-- the bytes are not one of the lines of what ends: frames, phases and run
pub record LacksLinesOfEnd (bytes : List ℕ) : Type 0 where
  pub frame : (status : Word) → IsLineOf bytes (L.End status) → ⊥
  pub pei_stop : IsLineOf bytes L.PeiStop → ⊥
  pub dxe_stop : IsLineOf bytes L.DxeStop → ⊥
  pub waiting : (volume : ℕ) (name : Guid) (reason : Reason) → IsLineOf bytes (L.Waiting volume name reason) → ⊥
  pub handoff : (address : ℕ) → IsLineOf bytes (L.Handoff address) → ⊥
  pub outcome : (outcome : RunEnd) → IsLineOf bytes (L.Result outcome) → ⊥

-- the bytes are not one of the lines of the move to permanent memory
pub record LacksLinesOfMove (bytes : List ℕ) : Type 0 where
  pub migrate : (from : ℕ) (to : ℕ) → IsLineOf bytes (L.Migrate from to) → ⊥
  pub core_install : (status : Word) → IsLineOf bytes (L.CoreInstall status) → ⊥

-- the bytes are not one of the lines of counts, which begin lists
pub record LacksLinesOfCount (bytes : List ℕ) : Type 0 where
  pub ppis : (count : ℕ) → IsLineOf bytes (L.Ppis count) → ⊥
  pub callbacks : (count : ℕ) → IsLineOf bytes (L.Callbacks count) → ⊥
  pub dispatches : (count : ℕ) → IsLineOf bytes (L.Dispatches count) → ⊥
  pub pendings : (count : ℕ) → IsLineOf bytes (L.Pendings count) → ⊥
  pub hobs : (count : ℕ) → IsLineOf bytes (L.Hobs count) → ⊥
  pub handles : (count : ℕ) → IsLineOf bytes (L.Handles count) → ⊥

-- the bytes are not one of the lines of entries of lists
pub record LacksLinesOfEntry (bytes : List ℕ) : Type 0 where
  pub ppi : (by : ℕ) (guid : Guid) (value : ℕ) → IsLineOf bytes (L.Ppi by guid value) → ⊥
  pub callback : (guid : Guid) (by : ℕ) (block : ℕ) → IsLineOf bytes (L.Callback guid by block) → ⊥
  pub dispatch : (guid : Guid) (by : ℕ) (block : ℕ) → IsLineOf bytes (L.Dispatch guid by block) → ⊥
  pub pending : (guid : Guid) (by : ℕ) (block : ℕ) → IsLineOf bytes (L.Pending guid by block) → ⊥
  pub handle : (handle : ℕ) (guid : Guid) (value : ℕ) → IsLineOf bytes (L.Handle handle guid value) → ⊥

-- the bytes are not one of the lines of an audit
pub record LacksLinesOfAudit (bytes : List ℕ) : Type 0 where
  pub volume : (volume : ℕ) (base : ℕ) (len : ℕ) (name : Option Guid) → IsLineOf bytes (L.Volume volume base len name) → ⊥
  pub part : (by : ℕ) (volume : ℕ) (name : Guid) (kind : ℕ) (pei_rank : Option ℕ) (dxe_rank : Option ℕ) (pei : ExpressionWord) (dxe : ExpressionWord) → IsLineOf bytes (L.Module by volume name kind pei_rank dxe_rank pei dxe) → ⊥

-- the bytes are not one of the lines of refusals, but for those of files
pub record LacksLinesOfRefusal (bytes : List ℕ) : Type 0 where
  pub usage : IsLineOf bytes L.RefusedUsage → ⊥
  pub plan : (line : ℕ) (cause : PlanCause) → IsLineOf bytes (L.RefusedPlan line cause) → ⊥
  pub image : (volume : ℕ) (at : ℕ) (cause : ImageCause) → IsLineOf bytes (L.RefusedImage volume at cause) → ⊥

-- the bytes are not one of the lines of services
abbrev pub LacksLinesOfCall : List ℕ → Type 0
LacksLinesOfCall bytes = (name : CallName) (status : Word) (extra : Extra) → IsLineOf bytes (L.Call name status extra) → ⊥

-- the word is not that of an expression without a GUID
pub record LacksPlainExpressions (word : List ℕ) : Type 0 where
  pub no_part : word ≢ codes "-"
  pub absent : word ≢ codes "absent"
  pub tree : word ≢ codes "expr"
  pub sor : word ≢ codes "sor"

-- the bytes are not one of the lines of logged texts
abbrev pub LacksLogLines : List ℕ → Type 0
LacksLogLines bytes = (text : ArrayVec ℕ 64 (Unit {0})) → IsLineOf bytes (L.Log text) → ⊥

-- the bytes are not one of the lines of HOBs
abbrev pub LacksHobLines : List ℕ → Type 0
LacksHobLines bytes = (kind : ℕ) (body : List ℕ) → IsLineOf bytes (L.Hob kind body) → ⊥

-- the bytes are not one of the lines of files that could not be read
pub record LacksFileLines (bytes : List ℕ) : Type 0 where
  pub file : (name : List ℕ) → IsLineOf bytes (L.RefusedFile name) → ⊥
  pub long : (name : List ℕ) → IsLineOf bytes (L.RefusedLong name) → ⊥

-- the bytes are not one of the lines that are read without memory
pub record LacksPlainLines (bytes : List ℕ) : Type 0 where
  pub starts : LacksLinesOfStart bytes
  pub notifies : LacksLinesOfNotify bytes
  pub calls : LacksLinesOfCall bytes
  pub logs : LacksLogLines bytes
  pub ends : LacksLinesOfEnd bytes
  pub moves : LacksLinesOfMove bytes
  pub counts : LacksLinesOfCount bytes
  pub entries : LacksLinesOfEntry bytes
  pub audits : LacksLinesOfAudit bytes
  pub refusals : LacksLinesOfRefusal bytes

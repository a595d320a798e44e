-- The table of actions (own): each one's code, its phases, its name and its operands.
use Rattle.std.specs.Prelude.{ℕ, Bool, true, false, ◌==◌, codes, find, List, Option}
use Rattle.pi_base.specs.{declared.phase.Phase.Phase, declared.phase.Phase.TheVariants.Pei, declared.phase.Phase.TheVariants.Dxe}
use Rattle.act_code.specs.{declared.code.Code.Code, declared.code.TheConstants.CODES, declared.action.Action.Action}
use Rattle.act_code.specs.declared.code.Code.TheVariants as code
use Rattle.act_code.specs.declared.action.Action.TheVariants as action
use Rattle.act_code.specs.Format.{Format, Value, Nothing, Byte, Within, RegisterNumber, BlockNumber, Little, GuidBytes, WordNumber, Counted, Text, Registers, Descriptor, HobBody, Pair}

-- the phases whose scripts have an action
pub data Owner : Type 0 where
  both : Owner
  pei : Owner
  dxe : Owner

abbrev pub is_owned : Phase → Owner → Bool
is_owned phase both = true
is_owned Pei pei = true
is_owned Pei dxe = false
is_owned Dxe pei = false
is_owned Dxe dxe = true

pub record Row : Type 0 where
  pub number : ℕ
  pub owner : Owner
  pub name : List ℕ
  pub format : Format

abbrev row : ℕ → Owner → List ℕ → Format → Row
row number owner name format = record { number = number; owner = owner; name = name; format = format }

abbrev pub row_of : Code → Row
row_of code.Set = row 0x01 both (codes "set") (Pair RegisterNumber (Little 8))
row_of code.Add = row 0x02 both (codes "add") (Pair RegisterNumber (Little 8))
row_of code.Pool = row 0x03 pei (codes "pool") (Pair RegisterNumber (Little 4))
row_of code.Store = row 0x04 pei (codes "store") (Pair RegisterNumber (Pair (Little 4) Counted))
row_of code.Addr = row 0x06 pei (codes "addr") (Pair RegisterNumber (Pair RegisterNumber (Little 4)))
row_of code.Peek = row 0x07 both (codes "peek") (Pair RegisterNumber (Within 1 64))
row_of code.Desc = row 0x08 pei (codes "desc") (Pair RegisterNumber Descriptor)
row_of code.Install = row 0x09 pei (codes "install") Registers
row_of code.Reinstall = row 0x0a pei (codes "reinstall") (Pair RegisterNumber RegisterNumber)
row_of code.Notify = row 0x0b pei (codes "notify") Registers
row_of code.Locate = row 0x0c pei (codes "locate") (Pair RegisterNumber (Pair RegisterNumber (Pair GuidBytes (Little 2))))
row_of code.Hob = row 0x0d pei (codes "hob") HobBody
row_of code.Memory = row 0x0e pei (codes "memory") (Pair RegisterNumber RegisterNumber)
row_of code.Pages = row 0x0f pei (codes "pages") (Pair RegisterNumber (Pair Byte (Little 4)))
row_of code.BootMode = row 0x10 pei (codes "boot_mode") (Pair (Within 0 1) RegisterNumber)
row_of code.Log = row 0x11 both (codes "log") Text
row_of code.SkipIf = row 0x12 both (codes "skip_if") (Pair (Within 0 1) (Within 1 255))
row_of code.Ret = row 0x13 both (codes "ret") WordNumber
row_of code.Shadow = row 0x14 pei (codes "shadow") Nothing
row_of code.DxeInstall = row 0x20 dxe (codes "install") (Pair (Within 0 1) (Pair RegisterNumber (Pair GuidBytes RegisterNumber)))
row_of code.DxeReinstall = row 0x21 dxe (codes "reinstall") (Pair RegisterNumber (Pair GuidBytes (Pair RegisterNumber RegisterNumber)))
row_of code.DxeUninstall = row 0x22 dxe (codes "uninstall") (Pair RegisterNumber (Pair GuidBytes RegisterNumber))
row_of code.DxeLocate = row 0x23 dxe (codes "locate") (Pair RegisterNumber (Pair RegisterNumber GuidBytes))
row_of code.DxeNotify = row 0x24 dxe (codes "notify") (Pair GuidBytes BlockNumber)
row_of code.Schedule = row 0x25 dxe (codes "schedule") GuidBytes
row_of code.Process = row 0x26 dxe (codes "process") RegisterNumber
row_of code.Dispatch = row 0x27 dxe (codes "dispatch") Nothing

-- the name of an action
unfoldable pub name_of : Code → List ℕ
name_of c = (row_of c).name

abbrev pub number_of : Code → ℕ
number_of c = (row_of c).number

abbrev pub is_code_of : Phase → Code → Bool
is_code_of phase c = is_owned phase (row_of c).owner

abbrev pub format_of : Code → Format
format_of c = (row_of c).format

-- an action of a code and operands
abbrev pub made : (c : Code) → Value (format_of c) → Action
made code.Set x = action.Set x.0 x.1
made code.Add x = action.Add x.0 x.1
made code.Pool x = action.Pool x.0 x.1
made code.Store x = action.Store x.0 x.1.0 x.1.1
made code.Addr x = action.Addr x.0 x.1.0 x.1.1
made code.Peek x = action.Peek x.0 x.1
made code.Desc x = action.Desc x.0 x.1.0 x.1.1 x.1.2
made code.Install x = action.Install x
made code.Reinstall x = action.Reinstall x.0 x.1
made code.Notify x = action.Notify x
made code.Locate x = action.Locate x.0 x.1.0 x.1.1.0 x.1.1.1
made code.Hob x = action.Hob x.0 x.1
made code.Memory x = action.Memory x.0 x.1
made code.Pages x = action.Pages x.0 x.1.0 x.1.1
made code.BootMode x = action.BootMode x.0 x.1
made code.Log x = action.Log x
made code.SkipIf x = action.SkipIf x.0 x.1
made code.Ret x = action.Ret x
made code.Shadow x = action.Shadow
made code.DxeInstall x = action.DxeInstall x.0 x.1.0 x.1.1.0 x.1.1.1
made code.DxeReinstall x = action.DxeReinstall x.0 x.1.0 x.1.1.0 x.1.1.1
made code.DxeUninstall x = action.DxeUninstall x.0 x.1.0 x.1.1
made code.DxeLocate x = action.DxeLocate x.0 x.1.0 x.1.1
made code.DxeNotify x = action.DxeNotify x.0 x.1
made code.Schedule x = action.Schedule x
made code.Process x = action.Process x
made code.Dispatch x = action.Dispatch

-- an action as its code and its operands, in order
abbrev pub coded : Action → (c : Code) × Value (format_of c)
coded (action.Set r n) = (code.Set, (r, n))
coded (action.Add r n) = (code.Add, (r, n))
coded (action.Pool r size) = (code.Pool, (r, size))
coded (action.Store p offset bytes) = (code.Store, (p, (offset, bytes)))
coded (action.Addr v x offset) = (code.Addr, (v, (x, offset)))
coded (action.Peek v n) = (code.Peek, (v, n))
coded (action.Desc d kind guid arg) = (code.Desc, (d, (kind, guid, arg)))
coded (action.Install list) = (code.Install, list)
coded (action.Reinstall old new) = (code.Reinstall, (old, new))
coded (action.Notify list) = (code.Notify, list)
coded (action.Locate d v guid instance) = (code.Locate, (d, (v, (guid, instance))))
coded (action.Hob kind body) = (code.Hob, (kind, body))
coded (action.Memory begin length) = (code.Memory, (begin, length))
coded (action.Pages r memory_type count) = (code.Pages, (r, (memory_type, count)))
coded (action.BootMode form r) = (code.BootMode, (form, r))
coded (action.Log text) = (code.Log, text)
coded (action.SkipIf condition n) = (code.SkipIf, (condition, n))
coded (action.Ret status) = (code.Ret, status)
coded action.Shadow = (code.Shadow, tt)
coded (action.DxeInstall form h guid v) = (code.DxeInstall, (form, (h, (guid, v))))
coded (action.DxeReinstall h guid old new) = (code.DxeReinstall, (h, (guid, (old, new))))
coded (action.DxeUninstall h guid v) = (code.DxeUninstall, (h, (guid, v)))
coded (action.DxeLocate h v guid) = (code.DxeLocate, (h, (v, guid)))
coded (action.DxeNotify guid block) = (code.DxeNotify, (guid, block))
coded (action.Schedule guid) = (code.Schedule, guid)
coded (action.Process v) = (code.Process, v)
coded action.Dispatch = (code.Dispatch, tt)

abbrev pub code_of_action : Action → Code
code_of_action a = (coded a).0

abbrev pub operands : (a : Action) → Value (format_of (code_of_action a))
operands a = (coded a).1

-- the code that a byte is
abbrev pub code_of : ℕ → Option Code
code_of n = find (λ c. n == number_of c) CODES

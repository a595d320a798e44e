-- The GUIDs of what a script may install. In PEI a script installs descriptors; those that it makes name their GUIDs, or read them in a volume, and one that it was handed was installed before.
-- In DXE an action that installs an interface, also in the place of another, names its protocol.
-- PI 1.8, volume 1, `InstallPpi()` and `ReinstallPpi()`; UEFI, `InstallProtocolInterface()`; the actions are own.
use Rattle.std.specs.Prelude.{◌≡◌, Bool, true, false, ◌==◌, if◌then◌else◌, List, flat_map, Option, Some, None, is_some, option_to_list}
use Rattle.std.specs.List.{list_any}
use Rattle.pi_base.specs.{declared.guid.Guid.Guid, Guids.same_guid, Lists.firsts, GuidMap.value_of}
use Rattle.act_code.specs.{declared.action.Action.Action, declared.action.GuidArg.GuidArg}
use Rattle.act_code.specs.declared.action.Action.TheVariants.{Desc, DxeInstall, DxeReinstall}
use Rattle.act_code.specs.declared.action.GuidArg.TheVariants.{Inline, Register}
use Rattle.act_code.specs.{declared.descriptor_kind.TheConstants.PPI, declared.script.Script.Script}
use Rattle.explain_text.specs.declared.catalog.gives.Met.{Met}

-- the GUID that is named
abbrev pub named : GuidArg → Option Guid
named (Inline guid) = Some guid
named (Register v) = None

-- whether it is read
abbrev pub is_read : GuidArg → Bool
is_read (Inline guid) = false
is_read (Register v) = true

-- the GUID that an action names of what it may install
abbrev pub named_by : Action → Option Guid
named_by (Desc d kind guid arg) = if kind == PPI then named guid else None
named_by (DxeInstall form h guid v) = Some guid
named_by (DxeReinstall h guid old new) = Some guid
named_by _ = None

-- whether it makes a PPI's descriptor whose GUID it reads
abbrev pub reads_guid : Action → Bool
reads_guid (Desc d kind guid arg) = if kind == PPI then is_read guid else false
reads_guid _ = false

-- the GUIDs that the actions of a block name, and those of all blocks, in order
abbrev pub named_in_block : List Action → List Guid
named_in_block actions = flat_map (λ action. option_to_list (named_by action)) actions

abbrev pub named_in_all : List (List Action) → List Guid
named_in_all blocks = flat_map named_in_block blocks

-- the GUIDs of what a script may install, each once, in order of first mention
abbrev pub given_in : Script → List Guid
given_in script = firsts same_guid (named_in_all script.blocks)

-- whether it may install what it does not name
abbrev pub gives_any : Script → Bool
gives_any script = list_any (list_any reads_guid) script.blocks

-- these were met, each once, and are known
pub record AreMet (before : List Guid) (met : Met) : Type 0 where
  pub once : met.guids ≡ firsts same_guid before
  pub are_known : (guid : Guid) → is_some (value_of met.known guid) ≡ list_any (same_guid guid) met.guids

-- whether an action names this GUID
abbrev pub names : Guid → Action → Bool
names guid action = list_any (same_guid guid) (option_to_list (named_by action))

-- Modules are noted one by one.
use Rattle.std.proofs.Common.{◌≡◌, ℕ, Bool, true, false, cond, ◌||◌, ◌&&◌, List, [], ◌∷◌, refl, sym, ap, ◌∙◌}
use Rattle.std.specs.List.{list_any}
use Rattle.indexmap.specs.IndexSet.{IndexSet}
use Rattle.pi_base.specs.{declared.guid.Guid.Guid, declared.phase.Phase.Phase}
use Rattle.mod_catalog.specs.declared.catalogue.Module.{Module}
use Rattle.program_edge.specs.declared.scriptless.ModuleName.{ModuleName}
use Rattle.program_edge.specs.Scriptless.{AreScriptless, has_name, is_named}
use Rattle.program_edge.specs.Starts.{is_module, is_scriptless, is_silent, part_in}

-- those that are noted, with those that are ahead, are those of all modules
abbrev pub AreNotedUpTo : {S : Type 0} → Phase → (modules rest : List Module) → IndexSet ModuleName S → Type 0
AreNotedUpTo phase modules rest names =
    (volume : ℕ) (name : Guid) → (has_name names volume name || list_any (is_silent phase volume name) rest) ≡ list_any (is_silent phase volume name) modules

pub or_moved : (one noted ahead : Bool) → ((one || noted) || ahead) ≡ (noted || (one || ahead))
or_moved true true ahead = refl
or_moved true false ahead = refl
or_moved false noted ahead = refl

pub or_none : (a : Bool) → a ≡ (a || false)
or_none true = refl
or_none false = refl

pub noted_on : {S : Type 0} (phase : Phase) (modules rest after : List Module) (entry : Module) (old new : IndexSet ModuleName S) → rest ≡ entry ∷ after
    → ((volume : ℕ) (name : Guid) → has_name new volume name ≡ (is_silent phase volume name entry || has_name old volume name))
    → AreNotedUpTo phase modules rest old → AreNotedUpTo phase modules after new
noted_on phase modules rest after entry old new here notes noted volume name =
    let test = is_silent phase volume name in
    ap (λ b. b || list_any test after) (notes volume name)
    ∙ or_moved (test entry) (has_name old volume name) (list_any test after)
    ∙ sym (ap (λ all. has_name old volume name || list_any test all) here)
    ∙ noted volume name

pub all_noted : {S : Type 0} (phase : Phase) (modules rest : List Module) (names : IndexSet ModuleName S) → rest ≡ [] → AreNotedUpTo phase modules rest names → AreScriptless phase modules names
all_noted phase modules rest names here noted volume name =
    or_none (has_name names volume name) ∙ sym (ap (λ all. has_name names volume name || list_any (is_silent phase volume name) all) here) ∙ noted volume name

pub none_noted : {S : Type 0} (phase : Phase) (modules : List Module) (names : IndexSet ModuleName S) → names.keys ≡ [] → AreNotedUpTo phase modules modules names
none_noted phase modules names empty volume name = ap (λ keys. list_any (is_named volume name) keys || list_any (is_silent phase volume name) modules) empty

-- a module with a script is not noted
silent_not : (is_there : Bool) → false ≡ (is_there && false)
silent_not true = refl
silent_not false = refl

pub not_noted : {S : Type 0} (phase : Phase) (entry : Module) (names : IndexSet ModuleName S) → is_scriptless (part_in phase entry) ≡ false
    → (volume : ℕ) (name : Guid) → has_name names volume name ≡ (is_silent phase volume name entry || has_name names volume name)
not_noted phase entry names has_script volume name =
    ap (λ b. b || has_name names volume name) (silent_not (is_module volume name entry) ∙ sym (ap (λ b. is_module volume name entry && b) has_script))

-- one without is
noted_or : (is_there : Bool) (had : Bool) → cond is_there true had ≡ ((is_there && true) || had)
noted_or true had = refl
noted_or false had = refl

pub noted_now : {S : Type 0} (phase : Phase) (entry : Module) (old new : IndexSet ModuleName S) → is_scriptless (part_in phase entry) ≡ true
    → ((noted : ModuleName) → has_name new noted.volume noted.name ≡ cond (is_module noted.volume noted.name entry) true (has_name old noted.volume noted.name))
    → (volume : ℕ) (name : Guid) → has_name new volume name ≡ (is_silent phase volume name entry || has_name old volume name)
noted_now phase entry old new has_none puts volume name =
    puts (record { volume = volume; name = name })
    ∙ noted_or (is_module volume name entry) (has_name old volume name)
    ∙ sym (ap (λ b. (is_module volume name entry && b) || has_name old volume name) has_none)

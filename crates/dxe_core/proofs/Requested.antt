-- The driver that is requested, and the flags behind it.
use Rattle.std.proofs.Common.{◌≡◌, ◌<◌, ◌&&◌, ◌++◌, not, ℕ, Bool, true, false, List, [], ◌∷◌, cond, length, refl, ap, sym, subst, ◌∙◌, Option, Some, None, option_and_then, find, filter, if◌then◌else◌, is_none, is_some, slice_get, slice_set}
use Rattle.pi_base.specs.{declared.guid.Guid.Guid, declared.phase.Phase.TheVariants.Dxe, declared.word.Word.TheVariants.NotFound}
use Rattle.pi_base.specs.Guids.{same_guid}
use Rattle.act_code.specs.declared.action.Action.TheVariants as A
use Rattle.mod_catalog.specs.{declared.catalogue.Catalog.Catalog, declared.catalogue.Module.Module}
use Rattle.mod_catalog.specs.Parts.{has_number, part_of, part_at, rank_at, module_name}
use Rattle.boot_model.specs.declared.line.CallName.TheVariants as C
use Rattle.boot_model.specs.declared.line.Extra.TheVariants as X
use Rattle.boot_model.specs.{DxeMachine.DxeMachine, DxeMachine.DriverFrame, DxeChoice.asks_for_request, DxeChoice.discovered_order}
use Rattle.boot_model.specs.DxeAction.{Called, dxe_where, schedule_reply, unrequested_named}
use Rattle.boot_laws.specs.UnrequestedDrivers.{WaitForRequest}
use Rattle.boot_model.proofs.ListFacts.{each_found, each_has}
use Rattle.dxe_core.specs.{declared.reply.Reply.Reply, Event.requests, Reply.IsReply, Requests.first_down, Requests.is_down}
use Rattle.phase_parts.specs.declared.registers.Writes.TheVariants as W
use Rattle.dxe_core.specs.Answered.{did, refusal, told}
use Rattle.dxe_core.specs.Order.{gives, name_asked, asking_of}
use Rattle.dxe_core.specs.Services.{Services, AreServicesOf, flag_at}
use Rattle.dxe_core.proofs.{Flags.flag_up, Replying.changed, Replying.refuses}

find_alike : (f g : ℕ → Bool) → ((n : ℕ) → f n ≡ g n) → (xs : List ℕ) → find f xs ≡ find g xs
find_alike f g same [] = refl
find_alike f g same (x ∷ xs) = ap (λ b. cond b (Some x) (find f xs)) (same x) ∙ ap (λ r. cond (g x) (Some x) r) (find_alike f g same xs)

-- what is found among those of some numbers that pass a test
among_step : (p : ℕ → Bool) (b : Bool) (x : ℕ) (rest : List ℕ) → find p (cond b (x ∷ rest) rest) ≡ cond (b && p x) (Some x) (find p rest)
among_step p true x rest = refl
among_step p false x rest = refl

found_among : (p q : ℕ → Bool) (xs : List ℕ) → find p (filter q xs) ≡ find (λ n. q n && p n) xs
found_among p q [] = refl
found_among p q (x ∷ xs) = among_step p (q x) x (filter q xs) ∙ ap (λ r. cond (q x && p x) (Some x) r) (found_among p q xs)

swapped : (s t : Bool) → s && t ≡ t && s
swapped true true = refl
swapped true false = refl
swapped false true = refl
swapped false false = refl

-- a module that asks for a request is one of the catalogue
asks_there : (found : Option Module) → asks_for_request (option_and_then (part_of Dxe) found) ≡ true → is_some found ≡ true
asks_there None h = h
asks_there (Some m) h = refl

-- whether a driver is one that the request is for, by what is kept and by the definition
alike : (unranked asks there up : Bool) (own name : Guid) → (asks ≡ true → there ≡ true)
    → gives name (if unranked && asks then Some own else None) && (there && not up) ≡ unranked && ((asks && not up) && same_guid own name)
alike false asks there up own name h = refl
alike true false there up own name h = refl
alike true true true up own name h = swapped (same_guid own name) (not up)
alike true true false up own name h = let e : false ≡ true = h refl in absurd cc

abbrev is_asked : Catalog → List Bool → Guid → ℕ → Bool
is_asked catalog requested name n = gives name (name_asked catalog n) && is_down catalog requested n

asked_in : (catalog : Catalog) (m : DxeMachine) (old : Services) (name : Guid) → AreServicesOf catalog m old
    → first_down catalog old.requested (asking_of old.order name) ≡ find (is_asked catalog old.requested name) (discovered_order catalog m)
asked_in catalog m old name has =
    ap (first_down catalog old.requested) (has.order.asking_are name)
    ∙ found_among (is_down catalog old.requested) (λ n. gives name (name_asked catalog n)) (discovered_order catalog m)

-- the driver that the definition requests
asked_is : (catalog : Catalog) (m : DxeMachine) (old : Services) (name : Guid) → AreServicesOf catalog m old → WaitForRequest catalog m
    → first_down catalog old.requested (asking_of old.order name) ≡ unrequested_named catalog m name
asked_is catalog m old name has waits =
    asked_in catalog m old name has
    ∙ find_alike (is_asked catalog old.requested name) _
    (λ n.
    alike (is_none (rank_at Dxe catalog n)) (asks_for_request (part_at Dxe catalog n)) (is_some (slice_get catalog.modules n)) (flag_at old.requested n) (module_name catalog n) name
    (asks_there (slice_get catalog.modules n))
    ∙ ap (λ flag. is_none (rank_at Dxe catalog n) && ((asks_for_request (part_at Dxe catalog n) && not flag) && same_guid (module_name catalog n) name)) (has.requested n)) _
    ∙ sym (waits.named name)

found_in : (test : ℕ → Bool) (order : List ℕ) (number : ℕ) → Some number ≡ find test order → has_number order number ≡ true
found_in test order number found = each_found (λ n. has_number order n ≡ true) test order number (sym found) (each_has order)

pub none_named : (catalog : Catalog) (m : DxeMachine) (frame : DriverFrame) (old : Services) (name : Guid) (reply : Reply) → AreServicesOf catalog m old → WaitForRequest catalog m
    → None ≡ first_down catalog old.requested (asking_of old.order name) → reply ≡ refusal C.Schedule NotFound
    → IsReply catalog m frame (A.Schedule name) reply old
none_named catalog m frame old name reply has waits none is =
    refuses catalog m frame (A.Schedule name) reply old C.Schedule NotFound refl has is
    (ap (λ found. Called C.Schedule (dxe_where found (schedule_reply m frame) m frame NotFound)) (sym (none ∙ asked_is catalog m old name has waits)))

abbrev pub with_flag : Services → ℕ → Services
with_flag s number = record s { requested = slice_set s.requested number true }

pub named : (catalog : Catalog) (m : DxeMachine) (frame : DriverFrame) (old : Services) (name : Guid) (number : ℕ) (reply : Reply) → AreServicesOf catalog m old → WaitForRequest catalog m
    → number < length old.requested → Some number ≡ first_down catalog old.requested (asking_of old.order name) → reply ≡ did (requests number) (told C.Schedule X.Nothing W.Nothing)
    → IsReply catalog m frame (A.Schedule name) reply (with_flag old number)
named catalog m frame old name number reply has waits within found is =
    subst (λ r. IsReply catalog m frame (A.Schedule name) r (with_flag old number)) (sym is)
    (changed catalog m frame (A.Schedule name) (did (requests number) (told C.Schedule X.Nothing W.Nothing)) old (with_flag old number) m.handles m.notes (m.requested ++ number ∷ []) has refl has.handles has.notes
    (flag_up m.requested old.requested number within has.requested) refl refl (found_in (is_asked catalog old.requested name) (discovered_order catalog m) number (found ∙ asked_in catalog m old name has)) refl
    (ap (λ found. Called C.Schedule (dxe_where found (schedule_reply m frame) m frame NotFound)) (sym (found ∙ asked_is catalog m old name has waits))))

-- What each call of the MP services answers and does, by the calls and turns before it. `processors` is how many there are.
-- PI 1.8, volume 2, "MP Services Protocol". The order of the refusals is own.
use Rattle.std.specs.Prelude.{ℕ, ◌==◌, nat_lt, Bool, true, false, not, ◌&&◌, if◌then◌else◌, List, [], ◌∷◌, ◌++◌, map, filter, fold, Option, Some, None, option_to_list}
use Rattle.std.specs.List.{list_any}
use Rattle.pi_base.specs.Lists.{numbers}
use Rattle.mp_core.specs.{declared.event.MpEvent.MpEvent, declared.op.Op.Op, declared.reply.MpReply.MpReply}
use Rattle.mp_core.specs.declared.event.MpEvent.TheVariants.{All, This, Enable, Switch, Who, Turn}
use Rattle.mp_core.specs.{declared.reply.MpReply.TheVariants.Word, declared.reply.MpReply.TheVariants.Number, declared.reply.MpWord.MpWord}
use Rattle.mp_core.specs.declared.reply.MpWord.TheVariants.{Success, DeviceError, NotStarted, NotReady, NotFound, InvalidParameter, Unsupported}
use Rattle.mp_core.specs.Schedule.{Step, Starts, Turns, is_busy}

-- who is the BSP, who is enabled, and the accepted starts and the turns in order
pub record Past : Type 0 where
  pub bsp : ℕ
  pub enabled : ℕ → Bool
  pub steps : List Step

-- before the first event processor 0 is the BSP, and all are enabled
abbrev pub opening : Past
opening = record { bsp = 0; enabled = λ p. true; steps = [] }

-- an enabled AP is an enabled processor but the BSP
abbrev pub is_enabled_ap : Past → ℕ → Bool
is_enabled_ap past p = past.enabled p && not (p == past.bsp)

-- the enabled APs, in ascending order
abbrev pub enabled_aps : ℕ → Past → List ℕ
enabled_aps processors past = filter (is_enabled_ap past) (numbers 0 processors)

-- a call answers its first refusal that applies, else Success
abbrev pub first_refusal : List (Bool × MpWord) → MpWord
first_refusal [] = Success
first_refusal (refusal ∷ rest) = if refusal.0 then refusal.1 else first_refusal rest

-- whether a list is empty
abbrev pub is_empty : {A : Type 0} → List A → Bool
is_empty [] = true
is_empty (item ∷ rest) = false

abbrev pub startup_all_aps : ℕ → Past → ℕ → MpWord
startup_all_aps processors past by = first_refusal (
    (not (by == past.bsp), DeviceError)
    ∷ (is_empty (enabled_aps processors past), NotStarted)
    ∷ (list_any (λ p. is_busy p past.steps) (enabled_aps processors past), NotReady)
    ∷ [])

abbrev pub startup_this_ap : ℕ → Past → ℕ → ℕ → MpWord
startup_this_ap processors past by on = first_refusal (
    (not (by == past.bsp), DeviceError)
    ∷ (not (nat_lt on processors), NotFound)
    ∷ (not (is_enabled_ap past on), InvalidParameter)
    ∷ (is_busy on past.steps, NotReady)
    ∷ [])

abbrev pub enable_disable_ap : ℕ → Past → ℕ → ℕ → MpWord
enable_disable_ap processors past by on = first_refusal (
    (not (by == past.bsp), DeviceError)
    ∷ (not (nat_lt on processors), NotFound)
    ∷ (on == past.bsp, InvalidParameter)
    ∷ (is_busy on past.steps, Unsupported)
    ∷ [])

abbrev pub switch_bsp : ℕ → Past → ℕ → ℕ → MpWord
switch_bsp processors past by on = first_refusal (
    (not (by == past.bsp), DeviceError)
    ∷ (not (nat_lt on processors), NotFound)
    ∷ (not (is_enabled_ap past on), InvalidParameter)
    ∷ (is_busy on past.steps, NotReady)
    ∷ [])

-- what an event answers; a turn answers nothing
abbrev pub reply : ℕ → Past → MpEvent → Option MpReply
reply processors past (All by job) = Some (Word (startup_all_aps processors past by))
reply processors past (This by on job) = Some (Word (startup_this_ap processors past by on))
reply processors past (Enable by on enabled) = Some (Word (enable_disable_ap processors past by on))
reply processors past (Switch by on enabled) = Some (Word (switch_bsp processors past by on))
reply processors past (Who by) = Some (Number by)
reply processors past (Turn on) = None

-- a refused call changes nothing
abbrev pub if_success : MpWord → Past → Past → Past
if_success Success past changed = changed
if_success refusal past changed = past

-- each of these processors starts a job
abbrev pub started : List ℕ → List Op → Past → Past
started on job past = record past { steps = past.steps ++ map (λ p. Starts p job) on }

-- a processor is enabled or disabled
abbrev pub with_enabled : ℕ → Bool → Past → Past
with_enabled on enabled past = record past { enabled = λ p. if p == on then enabled else past.enabled p }

-- what an event makes of the past
abbrev pub after : ℕ → Past → MpEvent → Past
after processors past (All by job) = if_success (startup_all_aps processors past by) past (started (enabled_aps processors past) job past)
after processors past (This by on job) = if_success (startup_this_ap processors past by on) past (started (on ∷ []) job past)
after processors past (Enable by on enabled) = if_success (enable_disable_ap processors past by on) past (with_enabled on enabled past)
after processors past (Switch by on enabled) =
    if_success (switch_bsp processors past by on) past (record (with_enabled past.bsp enabled past) { bsp = on })
after processors past (Who by) = past
after processors past (Turn on) = record past { steps = past.steps ++ Turns on ∷ [] }

-- what a list of events makes of a past
abbrev pub past_from : ℕ → Past → List MpEvent → Past
past_from processors past events = fold (after processors) past events

-- the accepted starts and the turns of a list of events
abbrev pub schedule : ℕ → List MpEvent → List Step
schedule processors events = (past_from processors opening events).steps

-- each event answers by the table, over the events before it
abbrev pub replies_from : ℕ → Past → List MpEvent → List MpReply
replies_from processors past [] = []
replies_from processors past (event ∷ later) =
    option_to_list (reply processors past event) ++ replies_from processors (after processors past event) later

abbrev pub replies : ℕ → List MpEvent → List MpReply
replies processors events = replies_from processors opening events

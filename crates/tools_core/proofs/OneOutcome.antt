-- Words and told files have one outcome, and it is answered.
use Rattle.std.proofs.Common.{◌≡◌, ◌⊎◌, ◌≤◌, ℕ, length, ◌==◌, if◌then◌else◌, List, [], ◌∷◌, ◌++◌, Option, Some, None, Result, Ok, Err, inl, inr, refl, sym, ap, ◌∙◌, subst, arith}
use Rattle.std.specs.Io.KnownBytes.{Appends, Keeps}
use Rattle.boot_io.specs.{Output.HasLeftBy, declared.sink.SinkFault.SinkFault}
use Rattle.pi_base.specs.Field.{AreBytes}
use Rattle.boot_core.specs.{Job.IsNamedIn, Reading.plan_limit}
use Rattle.tools_core.specs.{declared.command_line.Tool.Tool, declared.command_line.PlanTool.PlanTool}
use Rattle.tools_core.specs.declared.command_line.PlanTool.TheVariants as P
use Rattle.tools_core.specs.declared.command_line.TraceTool.{TraceTool}
use Rattle.tools_core.specs.declared.command_line.TraceTool.TheVariants.{Check, Explain}
use Rattle.tools_core.specs.declared.command_line.Tool.TheVariants.{AssembleDepex, AssembleScript, ReadPei, ReadDxe, ReadScript, Mp, Volume, ReadVolume}
use Rattle.tools_core.specs.{declared.status.ToolStatus.ToolStatus, GcdReport.GcdReport, JobOutcome.JobOutcome}
use Rattle.tools_core.specs.declared.status.ToolStatus.TheVariants as S
use Rattle.tools_core.specs.CommandLine.{AskForFollow, AskForMap, AskForPlan, AskForTool, AskForTrace, plan_words, tool_words}
use Rattle.tools_core.specs.Ends.{EndsBy, Ends, IsDue, Kind, OfMemory, OfSink, OfText, Trail, kind_of, outcome, status_after, unread}
use Rattle.tools_core.specs.FollowReport.{FollowNames, FollowOutcome, OrderTextsOutcome, long_order, long_plan, names_order, names_plan, names_volume, order_limit, texts_read}
use Rattle.tools_core.specs.PlanReport.{PlanNames, PlanOutcome, PlanReport, names_a_volume, names_the_plan, over_long, text_read}
use Rattle.tools_core.specs.OneOutcome.{AnswersExactly, AreAllTold, AreTold, IsOne, IsStoppedBy, IsToldAsBytes}
use Rattle.tools_core.specs.TraceReport.{TextsOutcome, TraceNames, TraceOutcome, both_read, is_plan, is_trace, is_volume, plan_long, trace_limit, trace_long}
use Rattle.tools_core.specs.Outcome.{ContentReport, MapNames, MapOutcome, Names, Outcome, ToolOutcome, both, commands_limit, commands_long, content, file_limit, hobs_long, limit_of, long, of_follow, of_map, of_plan, of_tool, of_trace, usage, words_ask_follow, words_ask_map, words_ask_plan, words_ask_tool, words_ask_trace}
use Rattle.tools_core.proofs.ToldFiles.{one_content, one_long, told_bytes, within_or_over}

-- the laws of the tools: what is read leads to one report
pub record Laws : Type 0 where
  pub maps : (bytes lines : List ℕ) → IsOne (GcdReport bytes lines)
  pub contents : (tool : Tool) (content : List ℕ) → AreBytes content → IsOne (ContentReport tool content)
  pub plans : (tool : PlanTool) (told : List ℕ → Option (List ℕ)) (content : List ℕ) → AreAllTold told (IsNamedIn told content) → IsOne (JobOutcome (PlanReport tool) told content)
  pub traces : (tool : TraceTool) (told : List ℕ → Option (List ℕ)) (content text : List ℕ) → AreAllTold told (IsNamedIn told content) → IsOne (TextsOutcome tool told content text)
  pub follows : (told : List ℕ → Option (List ℕ)) (content text : List ℕ) → length text ≤ order_limit → AreAllTold told (IsNamedIn told content) → IsOne (OrderTextsOutcome told content text)

-- words ask for one thing: they are told apart by the first byte of the first word and of the second
abbrev byte_of : List ℕ → ℕ
byte_of [] = 0
byte_of (byte ∷ word) = byte

abbrev first : List (List ℕ) → ℕ
first [] = 0
first (word ∷ words) = byte_of word

abbrev rest : List (List ℕ) → List (List ℕ)
rest [] = []
rest (word ∷ words) = words

abbrev head : List (List ℕ) → List ℕ
head [] = []
head (word ∷ words) = word

abbrev second : List (List ℕ) → List ℕ
second words = head (rest words)

abbrev third : List (List ℕ) → List ℕ
third words = head (rest (rest words))

map_or_trace : (words : List (List ℕ)) (hobs commands : List ℕ) (asked : TraceTool) (plan trace : List ℕ) → AskForMap words hobs commands → AskForTrace words asked plan trace → ⊥
map_or_trace words hobs commands Check plan trace p q = let e = ap first (sym p.0 ∙ q.0) in omega (arith, e)
map_or_trace words hobs commands Explain plan trace p q = let e = ap first (sym p.0 ∙ q.0) in omega (arith, e)

map_or_tool : (words : List (List ℕ)) (hobs commands : List ℕ) (tool : Tool) (file : List ℕ) → AskForMap words hobs commands → AskForTool words tool file → ⊥
map_or_tool words hobs commands Mp file p q = let e = ap first (sym p.0 ∙ q.0) in omega (arith, e)
map_or_tool words hobs commands Volume file p q = let e = ap first (sym p.0 ∙ q.0) in omega (arith, e)
map_or_tool words hobs commands ReadVolume file p q = let e = ap first (sym p.0 ∙ q.0) in omega (arith, e)
map_or_tool words hobs commands tool file p q = let e = ap first (sym p.0 ∙ q.0) in omega (arith, e)

check_or_tool : (words : List (List ℕ)) (plan trace : List ℕ) (tool : Tool) (file : List ℕ) → AskForTrace words Check plan trace → AskForTool words tool file → ⊥
check_or_tool words plan trace Mp file p q = let e = ap first (sym p.0 ∙ q.0) in omega (arith, e)
check_or_tool words plan trace Volume file p q = let e = ap first (sym p.0 ∙ q.0) in omega (arith, e)
check_or_tool words plan trace ReadVolume file p q = let e = ap first (sym p.0 ∙ q.0) in omega (arith, e)
check_or_tool words plan trace tool file p q = let e = ap first (sym p.0 ∙ q.0) in omega (arith, e)

told_or_tool : (words : List (List ℕ)) (plan trace : List ℕ) (tool : Tool) (file : List ℕ) → AskForTrace words Explain plan trace → AskForTool words tool file → ⊥
told_or_tool words plan trace Mp file p q = let e = ap first (sym p.0 ∙ q.0) in omega (arith, e)
told_or_tool words plan trace Volume file p q = let e = ap first (sym p.0 ∙ q.0) in omega (arith, e)
told_or_tool words plan trace ReadVolume file p q = let e = ap first (sym p.0 ∙ q.0) in omega (arith, e)
told_or_tool words plan trace tool file p q = let e = ap first (sym p.0 ∙ q.0) in omega (arith, e)

trace_or_tool : (words : List (List ℕ)) (asked : TraceTool) (plan trace : List ℕ) (tool : Tool) (file : List ℕ) → AskForTrace words asked plan trace → AskForTool words tool file → ⊥
trace_or_tool words Check plan trace tool file p q = check_or_tool words plan trace tool file p q
trace_or_tool words Explain plan trace tool file p q = told_or_tool words plan trace tool file p q

plan_or_map : (words : List (List ℕ)) (asked : PlanTool) (plan hobs commands : List ℕ) → AskForPlan words asked plan → AskForMap words hobs commands → ⊥
plan_or_map words P.Hobs plan hobs commands p q = let e = ap first (sym p.0 ∙ q.0) in omega (arith, e)
plan_or_map words P.HobsInTurns plan hobs commands p q = let e = ap first (sym p.0 ∙ q.0) in omega (arith, e)
plan_or_map words P.Reasons plan hobs commands p q = let e = ap first (sym p.0 ∙ q.0) in omega (arith, e)
plan_or_map words P.ReasonsInTurns plan hobs commands p q = let e = ap first (sym p.0 ∙ q.0) in omega (arith, e)
plan_or_map words P.Passes plan hobs commands p q = let e = ap first (sym p.0 ∙ q.0) in omega (arith, e)

plan_or_trace : (words : List (List ℕ)) (asked : PlanTool) (plan : List ℕ) (tool : TraceTool) (other trace : List ℕ) → AskForPlan words asked plan → AskForTrace words tool other trace → ⊥
plan_or_trace words P.Hobs plan Check other trace p q = let e = ap first (sym p.0 ∙ q.0) in omega (arith, e)
plan_or_trace words P.Hobs plan Explain other trace p q = let e = ap first (sym p.0 ∙ q.0) in omega (arith, e)
plan_or_trace words P.HobsInTurns plan Check other trace p q = let e = ap first (sym p.0 ∙ q.0) in omega (arith, e)
plan_or_trace words P.HobsInTurns plan Explain other trace p q = let e = ap first (sym p.0 ∙ q.0) in omega (arith, e)
plan_or_trace words P.Reasons plan Check other trace p q = let e = ap first (sym p.0 ∙ q.0) in omega (arith, e)
plan_or_trace words P.Reasons plan Explain other trace p q = let none : [] ≡ trace ∷ [] = ap (λ (x : List (List ℕ)). rest (rest x)) (sym p.0 ∙ q.0) in cc
plan_or_trace words P.ReasonsInTurns plan Check other trace p q = let e = ap first (sym p.0 ∙ q.0) in omega (arith, e)
plan_or_trace words P.ReasonsInTurns plan Explain other trace p q = q.2.1 (ap third (sym q.0 ∙ p.0))
plan_or_trace words P.Passes plan Check other trace p q = let e = ap first (sym p.0 ∙ q.0) in omega (arith, e)
plan_or_trace words P.Passes plan Explain other trace p q = let e = ap first (sym p.0 ∙ q.0) in omega (arith, e)

plan_or_tool : (words : List (List ℕ)) (asked : PlanTool) (plan : List ℕ) (tool : Tool) (file : List ℕ) → AskForPlan words asked plan → AskForTool words tool file → ⊥
plan_or_tool words P.Hobs plan Mp file p q = let e = ap first (sym p.0 ∙ q.0) in omega (arith, e)
plan_or_tool words P.Hobs plan Volume file p q = let e = ap first (sym p.0 ∙ q.0) in omega (arith, e)
plan_or_tool words P.Hobs plan ReadVolume file p q = let e = ap first (sym p.0 ∙ q.0) in omega (arith, e)
plan_or_tool words P.Hobs plan tool file p q = let e = ap first (sym p.0 ∙ q.0) in omega (arith, e)
plan_or_tool words P.HobsInTurns plan Mp file p q = let e = ap first (sym p.0 ∙ q.0) in omega (arith, e)
plan_or_tool words P.HobsInTurns plan Volume file p q = let e = ap first (sym p.0 ∙ q.0) in omega (arith, e)
plan_or_tool words P.HobsInTurns plan ReadVolume file p q = let e = ap first (sym p.0 ∙ q.0) in omega (arith, e)
plan_or_tool words P.HobsInTurns plan tool file p q = let e = ap first (sym p.0 ∙ q.0) in omega (arith, e)
plan_or_tool words P.Reasons plan Mp file p q = let e = ap first (sym p.0 ∙ q.0) in omega (arith, e)
plan_or_tool words P.Reasons plan Volume file p q = let e = ap first (sym p.0 ∙ q.0) in omega (arith, e)
plan_or_tool words P.Reasons plan ReadVolume file p q = let e = ap first (sym p.0 ∙ q.0) in omega (arith, e)
plan_or_tool words P.Reasons plan tool file p q = let e = ap first (sym p.0 ∙ q.0) in omega (arith, e)
plan_or_tool words P.ReasonsInTurns plan Mp file p q = let e = ap first (sym p.0 ∙ q.0) in omega (arith, e)
plan_or_tool words P.ReasonsInTurns plan Volume file p q = let e = ap first (sym p.0 ∙ q.0) in omega (arith, e)
plan_or_tool words P.ReasonsInTurns plan ReadVolume file p q = let e = ap first (sym p.0 ∙ q.0) in omega (arith, e)
plan_or_tool words P.ReasonsInTurns plan tool file p q = let e = ap first (sym p.0 ∙ q.0) in omega (arith, e)
plan_or_tool words P.Passes plan Mp file p q = let e = ap first (sym p.0 ∙ q.0) in omega (arith, e)
plan_or_tool words P.Passes plan Volume file p q = let e = ap first (sym p.0 ∙ q.0) in omega (arith, e)
plan_or_tool words P.Passes plan ReadVolume file p q = let e = ap first (sym p.0 ∙ q.0) in omega (arith, e)
plan_or_tool words P.Passes plan tool file p q = let e = ap first (sym p.0 ∙ q.0) in omega (arith, e)

follow_or_map : (words : List (List ℕ)) (plan order hobs commands : List ℕ) → AskForFollow words plan order → AskForMap words hobs commands → ⊥
follow_or_map words plan order hobs commands p q = let e = ap first (sym p.0 ∙ q.0) in omega (arith, e)

follow_or_trace : (words : List (List ℕ)) (plan order : List ℕ) (asked : TraceTool) (other trace : List ℕ) → AskForFollow words plan order → AskForTrace words asked other trace → ⊥
follow_or_trace words plan order Check other trace p q = let e = ap first (sym p.0 ∙ q.0) in omega (arith, e)
follow_or_trace words plan order Explain other trace p q = let e = ap first (sym p.0 ∙ q.0) in omega (arith, e)

follow_or_plan : (words : List (List ℕ)) (plan order : List ℕ) (asked : PlanTool) (other : List ℕ) → AskForFollow words plan order → AskForPlan words asked other → ⊥
follow_or_plan words plan order P.Hobs other p q = let e = ap first (sym p.0 ∙ q.0) in omega (arith, e)
follow_or_plan words plan order P.HobsInTurns other p q = let e = ap first (sym p.0 ∙ q.0) in omega (arith, e)
follow_or_plan words plan order P.Reasons other p q = let e = ap first (sym p.0 ∙ q.0) in omega (arith, e)
follow_or_plan words plan order P.ReasonsInTurns other p q = let e = ap first (sym p.0 ∙ q.0) in omega (arith, e)
follow_or_plan words plan order P.Passes other p q = let e = ap first (sym p.0 ∙ q.0) in omega (arith, e)

follow_or_tool : (words : List (List ℕ)) (plan order : List ℕ) (tool : Tool) (file : List ℕ) → AskForFollow words plan order → AskForTool words tool file → ⊥
follow_or_tool words plan order Mp file p q = let e = ap first (sym p.0 ∙ q.0) in omega (arith, e)
follow_or_tool words plan order Volume file p q = let e = ap first (sym p.0 ∙ q.0) in omega (arith, e)
follow_or_tool words plan order ReadVolume file p q = let e = ap first (sym p.0 ∙ q.0) in omega (arith, e)
follow_or_tool words plan order tool file p q = let e = ap first (sym p.0 ∙ q.0) in omega (arith, e)

-- a tool of a plan is told by the first byte of its word, and by whether a word stands behind the plan's name
abbrev plan_tool_in : List (List ℕ) → PlanTool
plan_tool_in words =
    if first words == 112 then P.Passes
    else if first words == 104 then (if first (rest (rest words)) == 112 then P.HobsInTurns else P.Hobs)
    else if first (rest (rest words)) == 112 then P.ReasonsInTurns
    else P.Reasons

plan_tool_is : (tool : PlanTool) (plan : List ℕ) → plan_tool_in (plan_words tool plan) ≡ tool
plan_tool_is P.Hobs plan = refl
plan_tool_is P.HobsInTurns plan = refl
plan_tool_is P.Reasons plan = refl
plan_tool_is P.ReasonsInTurns plan = refl
plan_tool_is P.Passes plan = refl

one_plan_tool : (words : List (List ℕ)) (tool other : PlanTool) (plan name : List ℕ) → AskForPlan words tool plan → AskForPlan words other name → other ≡ tool
one_plan_tool words tool other plan name p q = sym (plan_tool_is other name) ∙ ap plan_tool_in (sym q.0 ∙ p.0) ∙ plan_tool_is tool plan

-- its name stands second
plan_is : (tool : PlanTool) (plan : List ℕ) → second (plan_words tool plan) ≡ plan
plan_is P.Hobs plan = refl
plan_is P.HobsInTurns plan = refl
plan_is P.Reasons plan = refl
plan_is P.ReasonsInTurns plan = refl
plan_is P.Passes plan = refl

one_plan_name : (words : List (List ℕ)) (tool other : PlanTool) (plan name : List ℕ) → AskForPlan words tool plan → AskForPlan words other name → name ≡ plan
one_plan_name words tool other plan name p q = sym (plan_is other name) ∙ ap second (sym q.0 ∙ p.0) ∙ plan_is tool plan

one_asked : (words : List (List ℕ)) (tool other : TraceTool) (plan trace text lines : List ℕ) → AskForTrace words tool plan trace → AskForTrace words other text lines → other ≡ tool
one_asked words Check Check plan trace text lines p q = refl
one_asked words Explain Explain plan trace text lines p q = refl
one_asked words Check Explain plan trace text lines p q = absurd (let e = ap first (sym p.0 ∙ q.0) in omega (arith, e))
one_asked words Explain Check plan trace text lines p q = absurd (let e = ap first (sym p.0 ∙ q.0) in omega (arith, e))

abbrev tool_in : List (List ℕ) → Tool
tool_in words =
    if first words == 109 then Mp
    else if first words == 118 then Volume
    else if first words == 116 then ReadVolume
    else if first words == 97 then (if first (rest words) == 100 then AssembleDepex else AssembleScript)
    else if first (rest words) == 112 then ReadPei
    else if first (rest words) == 100 then ReadDxe
    else ReadScript

tool_is : (tool : Tool) (file : List ℕ) → tool_in (tool_words tool ++ file ∷ []) ≡ tool
tool_is Mp file = refl
tool_is Volume file = refl
tool_is ReadVolume file = refl
tool_is tool file = refl

one_tool : (words : List (List ℕ)) (tool other : Tool) (file name : List ℕ) → AskForTool words tool file → AskForTool words other name → other ≡ tool
one_tool words tool other file name p q = sym (tool_is other name) ∙ ap tool_in (sym q.0 ∙ p.0) ∙ tool_is tool file

-- the file's name stands last
abbrev file_in : Tool → List (List ℕ) → List ℕ
file_in Mp words = head (rest words)
file_in Volume words = head (rest words)
file_in ReadVolume words = head (rest words)
file_in tool words = head (rest (rest words))

file_is : (tool : Tool) (file : List ℕ) → file_in tool (tool_words tool ++ file ∷ []) ≡ file
file_is Mp file = refl
file_is Volume file = refl
file_is ReadVolume file = refl
file_is tool file = refl

one_file : (words : List (List ℕ)) (tool : Tool) (file name : List ℕ) → AskForTool words tool file → AskForTool words tool name → name ≡ file
one_file words tool file name p q = sym (file_is tool name) ∙ ap (file_in tool) (sym q.0 ∙ p.0) ∙ file_is tool file

-- a tool's file has one outcome
one_of_tool : Laws → (told : Option (List ℕ)) (tool : Tool) (file : List ℕ) → IsToldAsBytes told → IsOne (ToolOutcome told tool file)
one_of_tool laws told tool file are a b s t (long p) (long q) = one_long told (limit_of tool) file a b s t p q
one_of_tool laws told tool file are a b s t (long p) (content d q u) = absurd (within_or_over told (limit_of tool) are p.content d p.long q)
one_of_tool laws told tool file are a b s t (content c p o) (long q) = absurd (within_or_over told (limit_of tool) are q.content c q.long p)
one_of_tool laws told tool file are a b s t (content c p o) (content d q u) =
    let P : List ℕ → Type 0 = λ x. ContentReport tool x b t in
    laws.contents tool c (told_bytes told are c p.as_told) a b s t o (subst P (one_content told are d c q.as_told p.as_told) u)

-- so have the files of a HOB list and of commands
one_of_map : Laws → (told : List ℕ → Option (List ℕ)) (hobs commands : List ℕ) → AreAllTold told (MapNames told hobs commands) → IsOne (MapOutcome told hobs commands)
one_of_map laws told hobs commands all a b s t (hobs_long p) (hobs_long q) = one_long (told hobs) file_limit hobs a b s t p q
one_of_map laws told hobs commands all a b s t (hobs_long p) (commands_long d q o) = absurd (within_or_over (told hobs) file_limit (all hobs (inl refl)) p.content d p.long q)
one_of_map laws told hobs commands all a b s t (hobs_long p) (both d lines q r u) = absurd (within_or_over (told hobs) file_limit (all hobs (inl refl)) p.content d p.long q)
one_of_map laws told hobs commands all a b s t (commands_long c p o) (hobs_long q) = absurd (within_or_over (told hobs) file_limit (all hobs (inl refl)) q.content c q.long p)
one_of_map laws told hobs commands all a b s t (commands_long c p o) (commands_long d q u) = one_long (told commands) commands_limit commands a b s t o u
one_of_map laws told hobs commands all a b s t (commands_long c p o) (both d lines q r u) =
    absurd (within_or_over (told commands) commands_limit (all commands (inr (c, p, refl))) o.content lines o.long r)
one_of_map laws told hobs commands all a b s t (both c lines p r o) (hobs_long q) = absurd (within_or_over (told hobs) file_limit (all hobs (inl refl)) q.content c q.long p)
one_of_map laws told hobs commands all a b s t (both c lines p r o) (commands_long d q u) =
    absurd (within_or_over (told commands) commands_limit (all commands (inr (c, p, refl))) u.content lines u.long r)
one_of_map laws told hobs commands all a b s t (both c lines p r o) (both d others q z u) =
    let bytes : d ≡ c = one_content (told hobs) (all hobs (inl refl)) d c q.as_told p.as_told in
    let texts : others ≡ lines = one_content (told commands) (all commands (inr (c, p, refl))) others lines z.as_told r.as_told in
    let P : List ℕ → Type 0 = λ x. GcdReport x others b t in
    let Q : List ℕ → Type 0 = λ x. GcdReport c x b t in
    laws.maps c lines a b s t o (subst Q texts (subst P bytes u))

-- and those of a plan and of a trace, for each tool of them
one_of_trace : Laws → (tool : TraceTool) (told : List ℕ → Option (List ℕ)) (plan trace : List ℕ) → AreAllTold told (TraceNames told plan trace) → IsOne (TraceOutcome tool told plan trace)
one_of_trace laws tool told plan trace all a b s t (plan_long p) (plan_long q) = one_long (told plan) plan_limit plan a b s t p q
one_of_trace laws tool told plan trace all a b s t (plan_long p) (trace_long d q o) = absurd (within_or_over (told plan) plan_limit (all plan (is_plan refl)) p.content d p.long q)
one_of_trace laws tool told plan trace all a b s t (plan_long p) (both_read d text q r u) = absurd (within_or_over (told plan) plan_limit (all plan (is_plan refl)) p.content d p.long q)
one_of_trace laws tool told plan trace all a b s t (trace_long c p o) (plan_long q) = absurd (within_or_over (told plan) plan_limit (all plan (is_plan refl)) q.content c q.long p)
one_of_trace laws tool told plan trace all a b s t (trace_long c p o) (trace_long d q u) = one_long (told trace) trace_limit trace a b s t o u
one_of_trace laws tool told plan trace all a b s t (trace_long c p o) (both_read d text q r u) =
    absurd (within_or_over (told trace) trace_limit (all trace (is_trace c p refl)) o.content text o.long r)
one_of_trace laws tool told plan trace all a b s t (both_read c text p r o) (plan_long q) = absurd (within_or_over (told plan) plan_limit (all plan (is_plan refl)) q.content c q.long p)
one_of_trace laws tool told plan trace all a b s t (both_read c text p r o) (trace_long d q u) =
    absurd (within_or_over (told trace) trace_limit (all trace (is_trace c p refl)) u.content text u.long r)
one_of_trace laws tool told plan trace all a b s t (both_read c text p r o) (both_read d other q z u) =
    let contents : d ≡ c = one_content (told plan) (all plan (is_plan refl)) d c q.as_told p.as_told in
    let texts : other ≡ text = one_content (told trace) (all trace (is_trace c p refl)) other text z.as_told r.as_told in
    let P : List ℕ → Type 0 = λ x. TextsOutcome tool told x other b t in
    let Q : List ℕ → Type 0 = λ x. TextsOutcome tool told c x b t in
    laws.traces tool told c text (λ name named. all name (is_volume c text p r named)) a b s t o (subst Q texts (subst P contents u))

-- and those of a plan and of an order of starts
one_of_follow : Laws → (told : List ℕ → Option (List ℕ)) (plan order : List ℕ) → AreAllTold told (FollowNames told plan order) → IsOne (FollowOutcome told plan order)
one_of_follow laws told plan order all a b s t (long_plan p) (long_plan q) = one_long (told plan) plan_limit plan a b s t p q
one_of_follow laws told plan order all a b s t (long_plan p) (long_order d q o) = absurd (within_or_over (told plan) plan_limit (all plan (names_plan refl)) p.content d p.long q)
one_of_follow laws told plan order all a b s t (long_plan p) (texts_read d text q r u) = absurd (within_or_over (told plan) plan_limit (all plan (names_plan refl)) p.content d p.long q)
one_of_follow laws told plan order all a b s t (long_order c p o) (long_plan q) = absurd (within_or_over (told plan) plan_limit (all plan (names_plan refl)) q.content c q.long p)
one_of_follow laws told plan order all a b s t (long_order c p o) (long_order d q u) = one_long (told order) order_limit order a b s t o u
one_of_follow laws told plan order all a b s t (long_order c p o) (texts_read d text q r u) =
    absurd (within_or_over (told order) order_limit (all order (names_order c p refl)) o.content text o.long r)
one_of_follow laws told plan order all a b s t (texts_read c text p r o) (long_plan q) = absurd (within_or_over (told plan) plan_limit (all plan (names_plan refl)) q.content c q.long p)
one_of_follow laws told plan order all a b s t (texts_read c text p r o) (long_order d q u) =
    absurd (within_or_over (told order) order_limit (all order (names_order c p refl)) u.content text u.long r)
one_of_follow laws told plan order all a b s t (texts_read c text p r o) (texts_read d other q z u) =
    let contents : d ≡ c = one_content (told plan) (all plan (names_plan refl)) d c q.as_told p.as_told in
    let texts : other ≡ text = one_content (told order) (all order (names_order c p refl)) other text z.as_told r.as_told in
    let P : List ℕ → Type 0 = λ x. OrderTextsOutcome told x other b t in
    let Q : List ℕ → Type 0 = λ x. OrderTextsOutcome told c x b t in
    laws.follows told c text r.within (λ name named. all name (names_volume c text p r named)) a b s t o (subst Q texts (subst P contents u))

-- and that of a plan alone, for each tool of it
one_of_plan : Laws → (tool : PlanTool) (told : List ℕ → Option (List ℕ)) (plan : List ℕ) → AreAllTold told (PlanNames told plan) → IsOne (PlanOutcome tool told plan)
one_of_plan laws tool told plan all a b s t (over_long p) (over_long q) = one_long (told plan) plan_limit plan a b s t p q
one_of_plan laws tool told plan all a b s t (over_long p) (text_read d q o) = absurd (within_or_over (told plan) plan_limit (all plan (names_the_plan refl)) p.content d p.long q)
one_of_plan laws tool told plan all a b s t (text_read c p o) (over_long q) = absurd (within_or_over (told plan) plan_limit (all plan (names_the_plan refl)) q.content c q.long p)
one_of_plan laws tool told plan all a b s t (text_read c p o) (text_read d q u) =
    let contents : d ≡ c = one_content (told plan) (all plan (names_the_plan refl)) d c q.as_told p.as_told in
    let P : List ℕ → Type 0 = λ x. JobOutcome (PlanReport tool) told x b t in
    laws.plans tool told c (λ name named. all name (names_a_volume c p named)) a b s t o (subst P contents u)

pub one_outcome : Laws → (told : List ℕ → Option (List ℕ)) (words : List (List ℕ)) → AreTold told words → IsOne (Outcome told words)
one_outcome laws told words all a b s t (usage none e u) (usage other f v) = (e ∙ sym f, u ∙ sym v)
one_outcome laws told words all a b s t (usage none e u) (words_ask_map hobs commands q o) = absurd (none.no_map hobs commands q)
one_outcome laws told words all a b s t (usage none e u) (words_ask_trace asked plan trace q o) = absurd (none.no_trace asked plan trace q)
one_outcome laws told words all a b s t (usage none e u) (words_ask_tool tool file q o) = absurd (none.no_tool tool file q)
one_outcome laws told words all a b s t (words_ask_map hobs commands p o) (usage none f v) = absurd (none.no_map hobs commands p)
one_outcome laws told words all a b s t (words_ask_trace asked plan trace p o) (usage none f v) = absurd (none.no_trace asked plan trace p)
one_outcome laws told words all a b s t (words_ask_tool tool file p o) (usage none f v) = absurd (none.no_tool tool file p)
one_outcome laws told words all a b s t (words_ask_map hobs commands p o) (words_ask_trace asked plan trace q u) = absurd (map_or_trace words hobs commands asked plan trace p q)
one_outcome laws told words all a b s t (words_ask_map hobs commands p o) (words_ask_tool tool file q u) = absurd (map_or_tool words hobs commands tool file p q)
one_outcome laws told words all a b s t (words_ask_trace asked plan trace p o) (words_ask_map hobs commands q u) = absurd (map_or_trace words hobs commands asked plan trace q p)
one_outcome laws told words all a b s t (words_ask_trace asked plan trace p o) (words_ask_tool tool file q u) = absurd (trace_or_tool words asked plan trace tool file p q)
one_outcome laws told words all a b s t (words_ask_tool tool file p o) (words_ask_map hobs commands q u) = absurd (map_or_tool words hobs commands tool file q p)
one_outcome laws told words all a b s t (words_ask_tool tool file p o) (words_ask_trace asked plan trace q u) = absurd (trace_or_tool words asked plan trace tool file q p)
one_outcome laws told words all a b s t (usage none e u) (words_ask_plan tool plan q o) = absurd (none.no_plan tool plan q)
one_outcome laws told words all a b s t (words_ask_plan tool plan p o) (usage none f v) = absurd (none.no_plan tool plan p)
one_outcome laws told words all a b s t (words_ask_plan tool plan p o) (words_ask_map hobs commands q u) = absurd (plan_or_map words tool plan hobs commands p q)
one_outcome laws told words all a b s t (words_ask_plan tool plan p o) (words_ask_trace asked other trace q u) = absurd (plan_or_trace words tool plan asked other trace p q)
one_outcome laws told words all a b s t (words_ask_plan asked plan p o) (words_ask_tool tool file q u) = absurd (plan_or_tool words asked plan tool file p q)
one_outcome laws told words all a b s t (words_ask_map hobs commands p o) (words_ask_plan tool plan q u) = absurd (plan_or_map words tool plan hobs commands q p)
one_outcome laws told words all a b s t (words_ask_trace asked other trace p o) (words_ask_plan tool plan q u) = absurd (plan_or_trace words tool plan asked other trace q p)
one_outcome laws told words all a b s t (words_ask_tool tool file p o) (words_ask_plan asked plan q u) = absurd (plan_or_tool words asked plan tool file q p)
one_outcome laws told words all a b s t (usage none e u) (words_ask_follow plan order q o) = absurd (none.no_follow plan order q)
one_outcome laws told words all a b s t (words_ask_follow plan order p o) (usage none f v) = absurd (none.no_follow plan order p)
one_outcome laws told words all a b s t (words_ask_follow plan order p o) (words_ask_map hobs commands q u) = absurd (follow_or_map words plan order hobs commands p q)
one_outcome laws told words all a b s t (words_ask_follow plan order p o) (words_ask_trace asked other trace q u) = absurd (follow_or_trace words plan order asked other trace p q)
one_outcome laws told words all a b s t (words_ask_follow plan order p o) (words_ask_plan tool other q u) = absurd (follow_or_plan words plan order tool other p q)
one_outcome laws told words all a b s t (words_ask_follow plan order p o) (words_ask_tool tool file q u) = absurd (follow_or_tool words plan order tool file p q)
one_outcome laws told words all a b s t (words_ask_map hobs commands p o) (words_ask_follow plan order q u) = absurd (follow_or_map words plan order hobs commands q p)
one_outcome laws told words all a b s t (words_ask_trace asked other trace p o) (words_ask_follow plan order q u) = absurd (follow_or_trace words plan order asked other trace q p)
one_outcome laws told words all a b s t (words_ask_plan tool other p o) (words_ask_follow plan order q u) = absurd (follow_or_plan words plan order tool other q p)
one_outcome laws told words all a b s t (words_ask_tool tool file p o) (words_ask_follow plan order q u) = absurd (follow_or_tool words plan order tool file q p)
one_outcome laws told words all a b s t (words_ask_follow plan order p o) (words_ask_follow text lines q u) =
    let P : List ℕ → Type 0 = λ x. FollowOutcome told x lines b t in
    let Q : List ℕ → Type 0 = λ x. FollowOutcome told plan x b t in
    let here = subst Q (ap third (sym q.0 ∙ p.0)) (subst P (ap second (sym q.0 ∙ p.0)) u) in
    one_of_follow laws told plan order (λ name named. all name (of_follow plan order p named)) a b s t o here
one_outcome laws told words all a b s t (words_ask_plan asked plan p o) (words_ask_plan tool other q u) =
    let P : PlanTool → Type 0 = λ x. PlanOutcome x told other b t in
    let Q : List ℕ → Type 0 = λ x. PlanOutcome asked told x b t in
    let here = subst Q (one_plan_name words asked tool plan other p q) (subst P (one_plan_tool words asked tool plan other p q) u) in
    one_of_plan laws asked told plan (λ name named. all name (of_plan asked plan p named)) a b s t o here
one_outcome laws told words all a b s t (words_ask_map hobs commands p o) (words_ask_map bytes lines q u) =
    let P : List ℕ → Type 0 = λ x. MapOutcome told x lines b t in
    let Q : List ℕ → Type 0 = λ x. MapOutcome told hobs x b t in
    let here = subst Q (ap third (sym q.0 ∙ p.0)) (subst P (ap second (sym q.0 ∙ p.0)) u) in
    one_of_map laws told hobs commands (λ name named. all name (of_map hobs commands p named)) a b s t o here
one_outcome laws told words all a b s t (words_ask_trace asked plan trace p o) (words_ask_trace other text lines q u) =
    let P : TraceTool → Type 0 = λ x. TraceOutcome x told text lines b t in
    let Q : List ℕ → Type 0 = λ x. TraceOutcome asked told x lines b t in
    let R : List ℕ → Type 0 = λ x. TraceOutcome asked told plan x b t in
    let same = one_asked words asked other plan trace text lines p q in
    let here = subst R (ap third (sym q.0 ∙ p.0)) (subst Q (ap second (sym q.0 ∙ p.0)) (subst P same u)) in
    one_of_trace laws asked told plan trace (λ name named. all name (of_trace asked plan trace p named)) a b s t o here
one_outcome laws told words all a b s t (words_ask_tool tool file p o) (words_ask_tool other name q u) =
    let same : other ≡ tool = one_tool words tool other file name p q in
    let asks : AskForTool words tool name = subst (λ (x : Tool). AskForTool words x name) same q in
    let P : Tool → Type 0 = λ x. ToolOutcome (told name) x name b t in
    let Q : List ℕ → Type 0 = λ x. ToolOutcome (told x) tool x b t in
    one_of_tool laws (told file) tool file (all file (of_tool tool file p refl)) a b s t o (subst Q (one_file words tool file name p asks) (subst P same u))

-- what is due is answered
abbrev OneOutcome : Type 0
OneOutcome = (told : List ℕ → Option (List ℕ)) (words : List (List ℕ)) → AreTold told words → IsOne (Outcome told words)

only_by : (k : Kind) (told : List ℕ → Option (List ℕ)) (words : List (List ℕ)) (status : ToolStatus) (t : Trail) → EndsBy k (Outcome told words) (Names told words) status t → (IsStoppedBy k status → ⊥)
    → (text : List ℕ) × Outcome told words status text × Appends t.old t.new text
only_by OfSink told words status t e real = absurd (real tt)
only_by OfMemory told words status t e real = absurd (real tt)
only_by OfText told words status t e real = by e.text e.due e.whole
  where
    by : (text : List ℕ) → IsDue (Outcome told words) (Names told words) status text t.files → Appends t.old t.new text → (text : List ℕ) × Outcome told words status text × Appends t.old t.new text
    by text (outcome o same) whole = (text, o, whole)
    by text (unread name failed is line) whole = absurd (real is)

whenever_by : (k : Kind) → OneOutcome → (told : List ℕ → Option (List ℕ)) (words : List (List ℕ)) (status : ToolStatus) (t : Trail) → EndsBy k (Outcome told words) (Names told words) status t → AreTold told words
    → (due : ToolStatus) (text : List ℕ) → Outcome told words due text → ((status ≡ due) × Appends t.old t.new text) ⊎ IsStoppedBy k status
whenever_by OfSink one told words status t e all due text leads = inr tt
whenever_by OfMemory one told words status t e all due text leads = inr tt
whenever_by OfText one told words status t e all due text leads = by e.text e.due e.whole
  where
    by : (put : List ℕ) → IsDue (Outcome told words) (Names told words) status put t.files → Appends t.old t.new put → ((status ≡ due) × Appends t.old t.new text) ⊎ (IsStoppedBy OfText status)
    by put (outcome o kept) whole = let same = one told words all status due put text o leads in inl (same.0, subst (λ x. Appends t.old t.new x) same.1 whole)
    by put (unread name failed is line) whole = inr is

pub answers_exactly : OneOutcome → (told : List ℕ → Option (List ℕ)) (words : List (List ℕ)) (status : ToolStatus) (t : Trail) → Ends (Outcome told words) (Names told words) status t → AnswersExactly told words t.old t.new status
answers_exactly one told words status t e = record {
  only = only_by (kind_of status) told words status t e;
  whenever = whenever_by (kind_of status) one told words status t e;
}

-- what is kept of a text that was appended to
kept : (old text left : Option (List ℕ)) (bytes : List ℕ) → Keeps text left → Appends old text bytes → Appends old left bytes
kept None text left bytes same p = tt
kept (Some x) None left bytes same p = absurd p
kept (Some x) (Some y) None bytes same p = absurd same
kept (Some x) (Some y) (Some z) bytes same p = same ∙ p

-- so is what is handed on to an output, unless that fails
pub handed_on : (handed : Result (Unit {0}) SinkFault) (told : List ℕ → Option (List ℕ)) (words : List (List ℕ)) (old text left : Option (List ℕ)) (ran status : ToolStatus) → HasLeftBy handed text left
    → status ≡ status_after handed ran → AnswersExactly told words old text ran → AnswersExactly told words old left status
handed_on (Ok u) told words old text left ran status same is e =
    let exactly : AnswersExactly told words old left ran = record {
      only = λ real. let put = e.only real in (put.0, put.1, kept old text left put.0 same put.2);
      whenever = λ all due bytes leads. elim (e.whenever all due bytes leads) [ inl h ↦ inl (h.0, kept old text left bytes same h.1) | inr h ↦ inr h ];
    } in
    subst (λ (s : ToolStatus). AnswersExactly told words old left s) (sym is) exactly
handed_on (Err fault) told words old text left ran status begun is e =
    let stopped : AnswersExactly told words old left S.SinkFault = record { only = λ real. absurd (real tt); whenever = λ all due bytes leads. inr tt } in
    subst (λ (s : ToolStatus). AnswersExactly told words old left s) (sym is) stopped

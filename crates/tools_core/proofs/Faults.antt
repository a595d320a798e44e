-- A fault of the files or of the sink is answered where its count rose, and nowhere else.
use Rattle.std.proofs.Common.{◌≡◌, ◌⊎◌, ℕ, ◌<◌, List, Option, inl, inr, refl, sym, ◌∙◌, subst, arith}
use Rattle.boot_io.specs.Faults.{Rose}
use Rattle.boot_plan.specs.declared.plan.Plan.{Plan}
use Rattle.boot_model.specs.{declared.line.Line.Line, declared.line.RunEnd.RunEnd}
use Rattle.mod_catalog.specs.declared.catalogue.Catalog.{Catalog}
use Rattle.pi_base.specs.{declared.phase.Phase.Phase, declared.phase.Phase.TheVariants.Pei, declared.phase.Phase.TheVariants.Dxe}
use Rattle.tools_core.specs.{declared.command_line.Tool.Tool, declared.status.ToolStatus.ToolStatus}
use Rattle.tools_core.specs.declared.command_line.Tool.TheVariants.{AssembleDepex, AssembleScript, ReadPei, ReadDxe, ReadScript, Mp, Volume, ReadVolume}
use Rattle.tools_core.specs.declared.status.ToolStatus.TheVariants as S
use Rattle.tools_core.specs.{declared.command_line.PlanTool.PlanTool, declared.command_line.TraceTool.TraceTool}
use Rattle.tools_core.specs.declared.command_line.PlanTool.TheVariants as P
use Rattle.tools_core.specs.declared.command_line.TraceTool.TheVariants.{Check, Explain}
use Rattle.boot_core.specs.{declared.handing_on.HandOff.HandOff, HandOff.IsHandOff}
use Rattle.recorded_boot.specs.HandOff.{IsHandOffInTurns}
use Rattle.tools_core.specs.CheckReport.{VerdictReport, no, yes}
use Rattle.tools_core.specs.ExplainReport.{ExplainReport, explained_so, faulty_image}
use Rattle.tools_core.specs.ToldReport.{ToldReport, goes_wrong, not_read, runs_so}
use Rattle.tools_core.specs.TraceReport.{SaidBy, TraceReport, both_read, image_refused, plan_long, said, trace_long, twins}
use Rattle.boot_model.specs.declared.line.RunEnd.TheVariants as E
use Rattle.tools_core.specs.HobsReport.{HobsReport, bad_image, ended, handed}
use Rattle.tools_core.specs.PlanReport.{PlanReport, over_long, text_read}
use Rattle.tools_core.specs.JobOutcome.{JobOutcome, JobReport, job_long, job_plan, job_read, no_job}
use Rattle.tools_core.specs.ReportText.{end_status, followed_status, passed_status}
use Rattle.tools_core.specs.Ends.{Answered, Ends, IsDue, NoMemory, SinkFailed, Trail, outcome, unread}
use Rattle.tools_core.specs.FollowReport.{FollowReport, OrderReport, bad_order, boots, image_refused as of_image, in_order, long_order, long_plan, texts_read, twins as of_twins}
use Rattle.tools_core.specs.GcdReport.{GcdReport, command_refused, done, hobs_refused}
use Rattle.recorded_boot.specs.{declared.order.lines.StartOrder.StartOrder, declared.follow.followed.Followed.Followed}
use Rattle.recorded_boot.specs.declared.follow.followed.Followed.TheVariants as F
use Rattle.recorded_boot.specs.declared.passes.Passed.{Passed}
use Rattle.recorded_boot.specs.declared.passes.Passed.TheVariants as Q
use Rattle.tools_core.specs.PassesReport.{PassesReport, boots_so, wrong_image}
use Rattle.tools_core.specs.TurnsReport.{TurnsReport, as_a_trace, in_turns_so, passes_limit, unsound_image}
use Rattle.tools_core.specs.MpReport.{MpReport, ran, refused}
use Rattle.tools_core.specs.Outcome.{ContentReport, Names, Outcome, both, commands_long, content, hobs_long, long, usage, words_ask_follow, words_ask_plan, words_ask_map, words_ask_tool, words_ask_trace}
use Rattle.tools_core.specs.PrintReport.{PrintReport, printed, no_volume}
use Rattle.tools_core.specs.VolumeReport.{VolumeReport, at_fault, built}
use Rattle.tools_core.specs.TextReport.{AssemblyReport, DepexReport, ExpressionReport, ScriptReport, assembled, bad, faulty, long as long_depex, long_script, malformed, no_script, read, spelled, stands}

-- an outcome is no fault of the files
abbrev Tells : (ToolStatus → List ℕ → Type 0) → Type 0
Tells Out = (status : ToolStatus) (text : List ℕ) → Out status text → status ≡ S.FileFault → ⊥

other : (status answer : ToolStatus) → (answer ≡ S.FileFault → ⊥) → status ≡ answer → status ≡ S.FileFault → ⊥
other status answer apart is fault = apart (sym is ∙ fault)

done_tells : (status : ToolStatus) → status ≡ S.Done → status ≡ S.FileFault → ⊥
done_tells status is = other status S.Done (λ (e : S.Done ≡ S.FileFault). absurd (cc)) is

text_tells : (status : ToolStatus) → status ≡ S.TextRefused → status ≡ S.FileFault → ⊥
text_tells status is = other status S.TextRefused (λ (e : S.TextRefused ≡ S.FileFault). absurd (cc)) is

line_tells : (status : ToolStatus) → status ≡ S.CommandRefused → status ≡ S.FileFault → ⊥
line_tells status is = other status S.CommandRefused (λ (e : S.CommandRefused ≡ S.FileFault). absurd (cc)) is

long_tells : (status : ToolStatus) → status ≡ S.TooLong → status ≡ S.FileFault → ⊥
long_tells status is = other status S.TooLong (λ (e : S.TooLong ≡ S.FileFault). absurd (cc)) is

depex_tells : (text : List ℕ) → Tells (DepexReport text)
depex_tells text status out (bad line p is t) = text_tells status is
depex_tells text status out (long_depex depex p more is t) = text_tells status is
depex_tells text status out (spelled depex p few is t) = done_tells status is

assembly_tells : (text : List ℕ) → Tells (AssemblyReport text)
assembly_tells text status out (no_script line p is t) = text_tells status is
assembly_tells text status out (long_script script p more is t) = text_tells status is
assembly_tells text status out (assembled script p few is t) = done_tells status is

expression_tells : (phase : Phase) (bytes : List ℕ) → Tells (ExpressionReport phase bytes)
expression_tells phase bytes status out (malformed at p is t) = text_tells status is
expression_tells phase bytes status out (read depex p is t) = done_tells status is

script_tells : (bytes : List ℕ) → Tells (ScriptReport bytes)
script_tells bytes status out (faulty fault real p is t) = text_tells status is
script_tells bytes status out (stands script p is t) = done_tells status is

mp_tells : (text : List ℕ) → Tells (MpReport text)
mp_tells text status out (refused line p is t) = line_tells status is
mp_tells text status out (ran file p left of is t) = done_tells status is

volume_tells : (text : List ℕ) → Tells (VolumeReport text)
volume_tells text status out (built bytes p q is t) = done_tells status is
volume_tells text status out (at_fault fault p is t) = text_tells status is

print_tells : (image : List ℕ) → Tells (PrintReport image)
print_tells image status out (printed text p is t) = done_tells status is
print_tells image status out (no_volume fault real p is t) = other status S.ImageRefused (λ (e : S.ImageRefused ≡ S.FileFault). absurd (cc)) is

content_tells : (tool : Tool) (bytes : List ℕ) → Tells (ContentReport tool bytes)
content_tells AssembleDepex bytes = depex_tells bytes
content_tells AssembleScript bytes = assembly_tells bytes
content_tells ReadPei bytes = expression_tells Pei bytes
content_tells ReadDxe bytes = expression_tells Dxe bytes
content_tells ReadScript bytes = script_tells bytes
content_tells Mp bytes = mp_tells bytes
content_tells Volume bytes = volume_tells bytes
content_tells ReadVolume bytes = print_tells bytes

map_tells : (bytes text : List ℕ) → Tells (GcdReport bytes text)
map_tells bytes text status out (hobs_refused fault real p is t) = other status S.HobsRefused (λ (e : S.HobsRefused ≡ S.FileFault). absurd (cc)) is
map_tells bytes text status out (command_refused space p line q is t) = line_tells status is
map_tells bytes text status out (done run is t) = done_tells status is

verdict_tells : (plan : Plan) (images : List (List ℕ)) (catalog : Catalog) (text : List ℕ) → Tells (VerdictReport plan images catalog text)
verdict_tells plan images catalog text status out (yes boot is t) = done_tells status is
verdict_tells plan images catalog text status out (no line off is t) = other status S.No (λ (e : S.No ≡ S.FileFault). absurd (cc)) is

told_tells : (plan : Plan) (images : List (List ℕ)) (catalog : Catalog) (text : List ℕ) → Tells (ToldReport plan images catalog text)
told_tells plan images catalog text status out (runs_so boot lines p o is) = done_tells status is
told_tells plan images catalog text status out (goes_wrong line p is t) = other status S.No (λ (e : S.No ≡ S.FileFault). absurd (cc)) is
told_tells plan images catalog text status out (not_read boot line p is t) = other status S.No (λ (e : S.No ≡ S.FileFault). absurd (cc)) is

said_tells : (tool : TraceTool) (plan : Plan) (images : List (List ℕ)) (catalog : Catalog) (text : List ℕ) → Tells (SaidBy tool plan images catalog text)
said_tells Check plan images catalog text = verdict_tells plan images catalog text
said_tells Explain plan images catalog text = told_tells plan images catalog text

trace_tells : (tool : TraceTool) (text : List ℕ) (plan : Plan) (images : List (List ℕ)) → Tells (TraceReport tool plan images text)
trace_tells tool text plan images status out (image_refused fault p is t) = other status S.ImageRefused (λ (e : S.ImageRefused ≡ S.FileFault). absurd (cc)) is
trace_tells tool text plan images status out (twins catalog sound volume p is t) = other status S.Twins (λ (e : S.Twins ≡ S.FileFault). absurd (cc)) is
trace_tells tool text plan images status out (said catalog sound apart o) = said_tells tool plan images catalog text status out o

explain_tells : (plan : Plan) (images : List (List ℕ)) → Tells (ExplainReport plan images)
explain_tells plan images status out (faulty_image fault p is t) = other status S.ImageRefused (λ (e : S.ImageRefused ≡ S.FileFault). absurd (cc)) is
explain_tells plan images status out (explained_so catalog sound o is) = done_tells status is

job_tells : (line : Line) → Tells (JobReport line)
job_tells line status out (job_long name p is t) = long_tells status is
job_tells line status out (job_plan fault p is t) = other status S.PlanRefused (λ (e : S.PlanRefused ≡ S.FileFault). absurd (cc)) is

-- neither is the result of a boot
end_tells : (end : RunEnd) (status : ToolStatus) → status ≡ end_status end → status ≡ S.FileFault → ⊥
end_tells E.Done status is = done_tells status is
end_tells E.NoMemory status is = other status S.NoHandoff (λ (e : S.NoHandoff ≡ S.FileFault). absurd (cc)) is
end_tells E.NoIpl status is = other status S.NoHandoff (λ (e : S.NoHandoff ≡ S.FileFault). absurd (cc)) is
end_tells E.Spent status is = other status S.Spent (λ (e : S.Spent ≡ S.FileFault). absurd (cc)) is
end_tells E.Deep status is = other status S.Deep (λ (e : S.Deep ≡ S.FileFault). absurd (cc)) is

hobs_tell : (Hands : HandOff → Type 0) (plan : Plan) (images : List (List ℕ)) → Tells (HobsReport Hands plan images)
hobs_tell Hands plan images status out (bad_image fault p is t) = other status S.ImageRefused (λ (e : S.ImageRefused ≡ S.FileFault). absurd (cc)) is
hobs_tell Hands plan images status out (handed hobs p is t) = done_tells status is
hobs_tell Hands plan images status out (ended end p is t) = end_tells end status is

-- nor what a boot in the order of EDK2's dispatchers came to
passed_tells : (passed : Passed) (status : ToolStatus) → status ≡ passed_status passed → status ≡ S.FileFault → ⊥
passed_tells (Q.Ended end) status is = end_tells end status is
passed_tells (Q.No turn) status is = other status S.No (λ (e : S.No ≡ S.FileFault). absurd (cc)) is

passes_tell : (plan : Plan) (images : List (List ℕ)) → Tells (PassesReport plan images)
passes_tell plan images status out (wrong_image fault p is t) = other status S.ImageRefused (λ (e : S.ImageRefused ≡ S.FileFault). absurd (cc)) is
passes_tell plan images status out (boots_so catalog sound passed lines p is t) = passed_tells passed status is

turns_tell : (plan : Plan) (images : List (List ℕ)) → Tells (TurnsReport plan images)
turns_tell plan images status out (unsound_image fault p is t) = other status S.ImageRefused (λ (e : S.ImageRefused ≡ S.FileFault). absurd (cc)) is
turns_tell plan images status out (in_turns_so catalog sound (Q.Ended end) text p (as_a_trace few o)) = trace_tells Explain text plan images status out o
turns_tell plan images status out (in_turns_so catalog sound (Q.Ended end) text p (passes_limit many is t)) = long_tells status is
turns_tell plan images status out (in_turns_so catalog sound (Q.No turn) text p o) = other status S.No (λ (e : S.No ≡ S.FileFault). absurd (cc)) o.0

plan_tells : (tool : PlanTool) (plan : Plan) (images : List (List ℕ)) → Tells (PlanReport tool plan images)
plan_tells P.Hobs plan images = hobs_tell (IsHandOff plan images) plan images
plan_tells P.HobsInTurns plan images = hobs_tell (IsHandOffInTurns plan images) plan images
plan_tells P.Reasons plan images = explain_tells plan images
plan_tells P.ReasonsInTurns plan images = turns_tell plan images
plan_tells P.Passes plan images = passes_tell plan images

-- nor what a boot in an order of starts came to
followed_tells : (followed : Followed) (status : ToolStatus) → status ≡ followed_status followed → status ≡ S.FileFault → ⊥
followed_tells (F.Ended end) status is = end_tells end status is
followed_tells F.Stopped status is = done_tells status is
followed_tells (F.No line against) status is = other status S.No (λ (e : S.No ≡ S.FileFault). absurd (cc)) is

order_tells : (plan : Plan) (images : List (List ℕ)) (order : StartOrder) → Tells (OrderReport plan images order)
order_tells plan images order status out (of_image fault p is t) = other status S.ImageRefused (λ (e : S.ImageRefused ≡ S.FileFault). absurd (cc)) is
order_tells plan images order status out (of_twins catalog sound volume p is t) = other status S.Twins (λ (e : S.Twins ≡ S.FileFault). absurd (cc)) is
order_tells plan images order status out (boots catalog sound apart followed lines p is t) = followed_tells followed status is

follow_tells : (text : List ℕ) (plan : Plan) (images : List (List ℕ)) → Tells (FollowReport plan images text)
follow_tells text plan images status out (bad_order line p is t) = other status S.OrderRefused (λ (e : S.OrderRefused ≡ S.FileFault). absurd (cc)) is
follow_tells text plan images status out (in_order order p o) = order_tells plan images order status out o

texts_tell : (Of : Plan → List (List ℕ) → ToolStatus → List ℕ → Type 0) → ((plan : Plan) (images : List (List ℕ)) → Tells (Of plan images)) → (told : List ℕ → Option (List ℕ)) (bytes : List ℕ) → Tells (JobOutcome Of told bytes)
texts_tell Of each told bytes status out (no_job line p o) = job_tells line status out o
texts_tell Of each told bytes status out (job_read job p o) = each job.plan job.images status out o

no_outcome : (told : List ℕ → Option (List ℕ)) (words : List (List ℕ)) → Tells (Outcome told words)
no_outcome told words status text (usage p is t) = other status S.Usage (λ (e : S.Usage ≡ S.FileFault). absurd (cc)) is
no_outcome told words status text (words_ask_map hobs commands p (hobs_long o)) = long_tells status o.status_is
no_outcome told words status text (words_ask_map hobs commands p (commands_long bytes q o)) = long_tells status o.status_is
no_outcome told words status text (words_ask_map hobs commands p (both bytes lines q r o)) = map_tells bytes lines status text o
no_outcome told words status text (words_ask_trace tool plan trace p (plan_long o)) = long_tells status o.status_is
no_outcome told words status text (words_ask_trace tool plan trace p (trace_long bytes q o)) = long_tells status o.status_is
no_outcome told words status text (words_ask_trace tool plan trace p (both_read bytes lines q r o)) = texts_tell (λ plan images. TraceReport tool plan images lines) (trace_tells tool lines) told bytes status text o
no_outcome told words status text (words_ask_follow plan order p (long_plan o)) = long_tells status o.status_is
no_outcome told words status text (words_ask_follow plan order p (long_order bytes q o)) = long_tells status o.status_is
no_outcome told words status text (words_ask_follow plan order p (texts_read bytes lines q r o)) = texts_tell (λ plan images. FollowReport plan images lines) (follow_tells lines) told bytes status text o
no_outcome told words status text (words_ask_plan tool plan p (over_long o)) = long_tells status o.status_is
no_outcome told words status text (words_ask_plan tool plan p (text_read bytes q o)) = texts_tell (PlanReport tool) (plan_tells tool) told bytes status text o
no_outcome told words status text (words_ask_tool tool file p (long o)) = long_tells status o.status_is
no_outcome told words status text (words_ask_tool tool file p (content bytes q o)) = content_tells tool bytes status text o

-- the files' fault
pub file_fault : (told : List ℕ → Option (List ℕ)) (words : List (List ℕ)) (status : ToolStatus) (t : Trail) → Ends (Outcome told words) (Names told words) status t → status ≡ S.FileFault → Rose t.files.before t.files.now
file_fault told words status t e is = by answered.text answered.due
  where
    answered : Answered (Outcome told words) (Names told words) S.FileFault t
    answered = subst (λ (s : ToolStatus). Ends (Outcome told words) (Names told words) s t) is e

    by : (text : List ℕ) → IsDue (Outcome told words) (Names told words) S.FileFault text t.files → Rose t.files.before t.files.now
    by text (outcome o kept) = absurd (no_outcome told words S.FileFault text o refl)
    by text (unread name failed same line) = failed.rose

pub files_rose : (Out : ToolStatus → List ℕ → Type 0) (Named : List ℕ → Type 0) (status : ToolStatus) (t : Trail) → Ends Out Named status t → t.files.before < t.files.now → (status ≡ S.FileFault) ⊎ (status ≡ S.SinkFault)
files_rose Out Named S.SinkFault t e more = inr refl
files_rose Out Named S.Memory t e more = let kept = e.files in absurd (omega (arith, kept, more))
files_rose Out Named status t e more = inl (by e.due)
  where
    by : IsDue Out Named status e.text t.files → status ≡ S.FileFault
    by (outcome o kept) = absurd (omega (arith, kept, more))
    by (unread name failed is line) = is

-- the sink's
pub sink_fault : (Out : ToolStatus → List ℕ → Type 0) (Named : List ℕ → Type 0) (status : ToolStatus) (t : Trail) → Ends Out Named status t → status ≡ S.SinkFault → Rose t.before t.now
sink_fault Out Named status t e is = failed.sink
  where
    failed : SinkFailed Out Named t
    failed = subst (λ (s : ToolStatus). Ends Out Named s t) is e

pub sink_rose : (Out : ToolStatus → List ℕ → Type 0) (Named : List ℕ → Type 0) (status : ToolStatus) (t : Trail) → Ends Out Named status t → t.before < t.now → status ≡ S.SinkFault
sink_rose Out Named S.SinkFault t e more = refl
sink_rose Out Named status t e more = let kept = e.sink in absurd (omega (arith, kept, more))

-- want of memory leaves nothing
pub nothing_put : (Out : ToolStatus → List ℕ → Type 0) (Named : List ℕ → Type 0) (status : ToolStatus) (t : Trail) → Ends Out Named status t → status ≡ S.Memory → t.new ≡ t.old
nothing_put Out Named status t e is = wanting.kept
  where
    wanting : NoMemory t
    wanting = subst (λ (s : ToolStatus). Ends Out Named s t) is e

-- The content of a tool's file, or a HOB list and the text of commands, have one report.
use Rattle.std.proofs.Common.{◌≡◌, ℕ, List, ◌++◌, length, sym, ap, ◌∙◌, arith}
use Rattle.pi_base.specs.{Field.AreBytes, declared.phase.Phase.Phase}
use Rattle.pi_base.specs.declared.phase.Phase.TheVariants.{Pei, Dxe}
use Rattle.depex_code.specs.declared.depex.Depex.{Depex}
use Rattle.depex_code.specs.Expression.{bytes_of, instructions, IsMalformed, Reads}
use Rattle.act_code.specs.{declared.fault.ActFault.ActFault, declared.script.Script.Script}
use Rattle.act_code.specs.Script.{IsFault, IsScript, script_bytes}
use Rattle.asm_text.specs.{BadLine.IsBadLine, ExpressionText.depex_text, ReadTree.IsExpression, ReadDepex.IsDepexText}
use Rattle.asm_text.specs.{ReadScript.IsWellFormed, ReadScript.IsScriptText, ScriptText.script_text}
use Rattle.mp_core.specs.{declared.reply.MpOutcome.MpOutcome, Past.replies, Past.schedule, Schedule.cells_after, Schedule.records_after}
use Rattle.mp_core.specs.{declared.file.MpFile.MpFile, FileText.IsFirstBad, FileText.IsMpFile}
use Rattle.mp_core.specs.OutcomeText.{bad_line, outcome_text, replies_text, cells_text, records_text}
use Rattle.tools_core.specs.{declared.command_line.Tool.Tool, OneOutcome.IsOne, Outcome.ContentReport, SourceRefusal.source_line}
use Rattle.tools_core.specs.declared.command_line.Tool.TheVariants.{AssembleDepex, AssembleScript, ReadPei, ReadDxe, ReadScript, Mp, Volume, ReadVolume}
use Rattle.tools_core.specs.MpReport.{IsOutcomeOf, MpReport, ran, refused}
use Rattle.tools_core.specs.Refusals.{text_line, malformed_line, bytes_line}
use Rattle.volume_text.specs.{declared.fault.Fault.Fault, declared.fault.TextFault.TheVariants.Bad, Text.Leads, Text.IsRefused}
use Rattle.fv_volume.specs.{declared.fault.VolFault.VolFault, Volume.IsFirstFault}
use Rattle.volume_print.specs.Description.{IsTextOf}
use Rattle.tools_core.specs.PrintReport.{PrintReport, fault_line, printed, no_volume}
use Rattle.tools_core.specs.VolumeReport.{VolumeReport, at_fault, built}
use Rattle.tools_core.specs.TextReport.{AssemblyReport, DepexReport, ExpressionReport, ScriptReport, hex_line, bad, long, spelled, malformed, read, faulty, stands, no_script, long_script, assembled}

-- what the crates of the texts say: a text or bytes have one reading, or one refusal, and never both
pub record Laws : Type 0 where
  pub expressions : (a b : Depex) → IsExpression a → IsExpression b → depex_text a ≡ depex_text b → a ≡ b
  pub scripts : (a b : Script) → IsWellFormed a → IsWellFormed b → script_text a ≡ script_text b → a ≡ b
  pub bad_expressions : (text : List ℕ) (m n : ℕ) → IsBadLine IsDepexText text m → IsBadLine IsDepexText text n → m ≡ n
  pub bad_scripts : (text : List ℕ) (m n : ℕ) → IsBadLine IsScriptText text m → IsBadLine IsScriptText text n → m ≡ n
  pub reads : (phase : Phase) (bytes : List ℕ) (a b : Depex) → Reads phase bytes a → Reads phase bytes b → a ≡ b
  pub malformed_at : (phase : Phase) (bytes : List ℕ) (m n : ℕ) → IsMalformed phase bytes m → IsMalformed phase bytes n → m ≡ n
  pub reads_or_malformed : (phase : Phase) (bytes : List ℕ) (a : Depex) (n : ℕ) → Reads phase bytes a → IsMalformed phase bytes n → ⊥
  pub codes : (bytes : List ℕ) (a b : Script) → IsScript bytes a → IsScript bytes b → a ≡ b
  pub faults : (bytes : List ℕ) (f g : ActFault) → AreBytes bytes → IsFault bytes f → IsFault bytes g → f ≡ g
  pub code_or_fault : (bytes : List ℕ) (a : Script) (f : ActFault) → AreBytes bytes → IsScript bytes a → IsFault bytes f → ⊥
  pub files : (text : List ℕ) (a b : MpFile) → IsMpFile text a → IsMpFile text b → a ≡ b
  pub bad_lines : (text : List ℕ) (m n : ℕ) → IsFirstBad text m → IsFirstBad text n → m ≡ n
  pub volumes : (text a b : List ℕ) → Leads text a → Leads text b → a ≡ b
  pub volume_faults : (text : List ℕ) (a b : Fault) → IsRefused text (Bad a) → IsRefused text (Bad b) → a ≡ b
  pub volume_or_fault : (text bytes : List ℕ) (fault : Fault) → Leads text bytes → IsRefused text (Bad fault) → ⊥
  pub volume_texts : (image a b : List ℕ) → IsTextOf image a → IsTextOf image b → a ≡ b
  pub text_or_fault : (image text : List ℕ) (fault : VolFault) → IsTextOf image text → IsFirstFault image fault → ⊥
  pub image_faults : (image : List ℕ) (a b : VolFault) → IsFirstFault image a → IsFirstFault image b → a ≡ b
  pub file_or_line : (text : List ℕ) (a : MpFile) (n : ℕ) → IsMpFile text a → IsFirstBad text n → ⊥

abbrev opcodes : Depex → ℕ
opcodes depex = length (instructions depex)

one_depex : Laws → (text : List ℕ) → IsOne (DepexReport text)
one_depex laws text a b s t (bad m p e u) (bad n q f v) = (e ∙ sym f, u ∙ ap text_line (laws.bad_expressions text m n p q) ∙ sym v)
one_depex laws text a b s t (bad m p e u) (long d q more f v) = absurd (p.none (d, q))
one_depex laws text a b s t (bad m p e u) (spelled d q few f v) = absurd (p.none (d, q))
one_depex laws text a b s t (long d p more e u) (bad n q f v) = absurd (q.none (d, p))
one_depex laws text a b s t (long d p more e u) (long c q much f v) = (e ∙ sym f, u ∙ sym v)
one_depex laws text a b s t (long d p more e u) (spelled c q few f v) =
    let same : opcodes d ≡ opcodes c = ap opcodes (laws.expressions d c p.0 q.0 (sym p.1 ∙ q.1)) in absurd (omega (arith, more, few, same))
one_depex laws text a b s t (spelled d p few e u) (bad n q f v) = absurd (q.none (d, p))
one_depex laws text a b s t (spelled d p few e u) (long c q more f v) =
    let same : opcodes d ≡ opcodes c = ap opcodes (laws.expressions d c p.0 q.0 (sym p.1 ∙ q.1)) in absurd (omega (arith, more, few, same))
one_depex laws text a b s t (spelled d p few e u) (spelled c q less f v) =
    (e ∙ sym f, u ∙ ap (λ (x : Depex). hex_line (bytes_of (instructions x))) (laws.expressions d c p.0 q.0 (sym p.1 ∙ q.1)) ∙ sym v)

abbrev bytes_in : Script → ℕ
bytes_in script = length (script_bytes script)

one_assembly : Laws → (text : List ℕ) → IsOne (AssemblyReport text)
one_assembly laws text a b s t (no_script m p e u) (no_script n q f v) = (e ∙ sym f, u ∙ ap text_line (laws.bad_scripts text m n p q) ∙ sym v)
one_assembly laws text a b s t (no_script m p e u) (long_script d q more f v) = absurd (p.none (d, q))
one_assembly laws text a b s t (no_script m p e u) (assembled d q few f v) = absurd (p.none (d, q))
one_assembly laws text a b s t (long_script d p more e u) (no_script n q f v) = absurd (q.none (d, p))
one_assembly laws text a b s t (long_script d p more e u) (long_script c q much f v) = (e ∙ sym f, u ∙ sym v)
one_assembly laws text a b s t (long_script d p more e u) (assembled c q few f v) =
    let same : bytes_in d ≡ bytes_in c = ap bytes_in (laws.scripts d c p.0 q.0 (sym p.1 ∙ q.1)) in absurd (omega (arith, more, few, same))
one_assembly laws text a b s t (assembled d p few e u) (no_script n q f v) = absurd (q.none (d, p))
one_assembly laws text a b s t (assembled d p few e u) (long_script c q more f v) =
    let same : bytes_in d ≡ bytes_in c = ap bytes_in (laws.scripts d c p.0 q.0 (sym p.1 ∙ q.1)) in absurd (omega (arith, more, few, same))
one_assembly laws text a b s t (assembled d p few e u) (assembled c q less f v) =
    (e ∙ sym f, u ∙ ap (λ (x : Script). hex_line (script_bytes x)) (laws.scripts d c p.0 q.0 (sym p.1 ∙ q.1)) ∙ sym v)

one_expression : Laws → (phase : Phase) (bytes : List ℕ) → IsOne (ExpressionReport phase bytes)
one_expression laws phase bytes a b s t (malformed m p e u) (malformed n q f v) = (e ∙ sym f, u ∙ ap malformed_line (laws.malformed_at phase bytes m n p q) ∙ sym v)
one_expression laws phase bytes a b s t (malformed m p e u) (read c q f v) = absurd (laws.reads_or_malformed phase bytes c m q p)
one_expression laws phase bytes a b s t (read d p e u) (malformed n q f v) = absurd (laws.reads_or_malformed phase bytes d n p q)
one_expression laws phase bytes a b s t (read d p e u) (read c q f v) = (e ∙ sym f, u ∙ ap depex_text (laws.reads phase bytes d c p q) ∙ sym v)

one_script : Laws → (bytes : List ℕ) → AreBytes bytes → IsOne (ScriptReport bytes)
one_script laws bytes are a b s t (faulty m real p e u) (faulty n real' q f v) = (e ∙ sym f, u ∙ ap (λ (x : ActFault). bytes_line x.cause x.at) (laws.faults bytes m n are p q) ∙ sym v)
one_script laws bytes are a b s t (faulty m real p e u) (stands c q f v) = absurd (laws.code_or_fault bytes c m are q p)
one_script laws bytes are a b s t (stands d p e u) (faulty n real q f v) = absurd (laws.code_or_fault bytes d n are p q)
one_script laws bytes are a b s t (stands d p e u) (stands c q f v) = (e ∙ sym f, u ∙ ap script_text (laws.codes bytes d c p q) ∙ sym v)

-- what is printed of an MP file is what its schedule leaves
abbrev told_text : MpFile → List ℕ
told_text file =
    replies_text file.events (replies file.processors file.events) ++ cells_text (cells_after file.cells (schedule file.processors file.events))
    ++ records_text (records_after file.processors (schedule file.processors file.events))

text_is : (file : MpFile) (left : MpOutcome) → IsOutcomeOf file left → outcome_text file.events left ≡ told_text file
text_is file left is =
    ap (λ x. replies_text file.events x ++ cells_text left.cells ++ records_text left.records) is.replies_are
    ∙ ap (λ x. replies_text file.events (replies file.processors file.events) ++ cells_text x ++ records_text left.records) is.cells_are
    ∙ ap (λ x. replies_text file.events (replies file.processors file.events) ++ cells_text (cells_after file.cells (schedule file.processors file.events)) ++ records_text x) is.records_are

one_mp : Laws → (text : List ℕ) → IsOne (MpReport text)
one_mp laws text a b s t (refused m p e u) (refused n q f v) = (e ∙ sym f, u ∙ ap bad_line (laws.bad_lines text m n p q) ∙ sym v)
one_mp laws text a b s t (refused m p e u) (ran file q left is f v) = absurd (laws.file_or_line text file m q p)
one_mp laws text a b s t (ran file p left is e u) (refused n q f v) = absurd (laws.file_or_line text file n p q)
one_mp laws text a b s t (ran file p left is e u) (ran other q more also f v) =
    (e ∙ sym f, u ∙ text_is file left is ∙ ap told_text (laws.files text file other p q) ∙ sym (text_is other more also) ∙ sym v)

one_volume : Laws → (text : List ℕ) → IsOne (VolumeReport text)
one_volume laws text a b s t (built c p m e u) (built d q n f v) = (e ∙ sym f, u ∙ laws.volumes text c d m n ∙ sym v)
one_volume laws text a b s t (built c p m e u) (at_fault g q f v) = absurd (laws.volume_or_fault text c g m q)
one_volume laws text a b s t (at_fault g p e u) (built c q n f v) = absurd (laws.volume_or_fault text c g n p)
one_volume laws text a b s t (at_fault g p e u) (at_fault h q f v) = (e ∙ sym f, u ∙ ap source_line (laws.volume_faults text g h p q) ∙ sym v)

one_print : Laws → (image : List ℕ) → IsOne (PrintReport image)
one_print laws image a b s t (printed c p e u) (printed d q f v) = (e ∙ sym f, u ∙ laws.volume_texts image c d p q ∙ sym v)
one_print laws image a b s t (printed c p e u) (no_volume g real q f v) = absurd (laws.text_or_fault image c g p q)
one_print laws image a b s t (no_volume g real p e u) (printed c q f v) = absurd (laws.text_or_fault image c g q p)
one_print laws image a b s t (no_volume g real p e u) (no_volume h also q f v) = (e ∙ sym f, u ∙ ap fault_line (laws.image_faults image g h p q) ∙ sym v)

pub one_content : Laws → (tool : Tool) (content : List ℕ) → AreBytes content → IsOne (ContentReport tool content)
one_content laws AssembleDepex content are = one_depex laws content
one_content laws AssembleScript content are = one_assembly laws content
one_content laws ReadPei content are = one_expression laws Pei content
one_content laws ReadDxe content are = one_expression laws Dxe content
one_content laws ReadScript content are = one_script laws content are
one_content laws Mp content are = one_mp laws content
one_content laws Volume content are = one_volume laws content
one_content laws ReadVolume content are = one_print laws content

-- What every catalogue keeps, for the calls that take one.
use Rattle.std.specs.Prelude.{◌≡◌, ◌≢◌, ◌⊎◌, ℕ, ◌+◌, ◌<◌, ◌≤◌, List, [], ◌∷◌, length, Option, Some, None, IfSome, ⊤}
use Rattle.pi_base.specs.{declared.phase.Phase.Phase, declared.phase.Phase.TheVariants.Pei, declared.phase.Phase.TheVariants.Dxe}
use Rattle.depex_code.specs.{declared.depex.Depex.Depex, declared.values.TheConstants.MOST_VALUES, Tree.postfix, Expression.IsOfPhase}
use Rattle.depex_code.specs.declared.depex.Depex.TheVariants.{Before, After, Expr}
use Rattle.act_code.specs.{declared.header.TheConstants.MOST_SCRIPT, Script.IsInGrammar, Script.script_bytes}
use Rattle.mod_catalog.specs.declared.limits.TheConstants.{MOST_VOLUMES, MOST_MODULES}
use Rattle.mod_catalog.specs.{declared.catalogue.Catalog.Catalog, declared.catalogue.VolumeEntry.VolumeEntry}
use Rattle.mod_catalog.specs.{declared.catalogue.Module.Module, declared.catalogue.Part.Part, declared.catalogue.PartExpr.PartExpr}
use Rattle.mod_catalog.specs.declared.catalogue.PartExpr.TheVariants.{Absent, Malformed, Held}
use Rattle.pi_base.specs.Lists.{Each, Ordered}
pub use Rattle.mod_catalog.specs.Parts.{part_of}
use Rattle.mod_catalog.specs.Parts.{parts_in}

-- each volume's parent comes before it; the first of these volumes has this number
abbrev pub AreNumbered : ℕ → List VolumeEntry → Type 0
AreNumbered number [] = ⊤
AreNumbered number (entry ∷ entries) = IfSome entry.parent (λ parent. parent < number) × AreNumbered (number + 1) entries

-- modules are ordered by volume, and in a volume by place
abbrev pub Precedes : Module → Module → Type 0
Precedes a b = (a.volume < b.volume) ⊎ ((a.volume ≡ b.volume) × (a.at < b.at))

-- if both modules have a part of the phase and a rank, the ranks differ
abbrev pub HaveOtherRanks : Option Part → Option Part → Type 0
HaveOtherRanks (Some a) (Some b) = IfSome a.rank (λ rank. b.rank ≢ Some rank)
HaveOtherRanks None b = ⊤
HaveOtherRanks (Some a) None = ⊤

-- in one volume no two modules have one rank in a phase
abbrev pub RanksDiffer : Module → Module → Type 0
RanksDiffer a b = a.volume ≡ b.volume → HaveOtherRanks a.pei b.pei × HaveOtherRanks a.dxe b.dxe

-- a part's rank is below the number of the parts of its phase in its volume, so the order by ranks has each of them
abbrev pub IsRankWithin : Phase → Catalog → Module → Type 0
IsRankWithin phase catalog m = IfSome (part_of phase m) (λ part. IfSome part.rank (λ rank. rank < length (parts_in phase catalog m.volume)))

-- an expression's opcodes are those of the phase
abbrev pub IsExpressionOf : Phase → PartExpr → Type 0
IsExpressionOf phase Absent = ⊤
IsExpressionOf phase (Malformed at) = ⊤
IsExpressionOf phase (Held expression) = IsOfPhase phase expression

-- a tree has no more opcodes than can be evaluated
abbrev pub IsShort : Depex → Type 0
IsShort (Before name) = ⊤
IsShort (After name) = ⊤
IsShort (Expr sor node) = length (postfix node) ≤ MOST_VALUES

-- so is the expression of a part, if it has one
abbrev pub IsShortExpression : PartExpr → Type 0
IsShortExpression Absent = ⊤
IsShortExpression (Malformed at) = ⊤
IsShortExpression (Held expression) = IsShort expression

-- the expressions of all parts of a phase are short
abbrev pub AreShort : Phase → Catalog → Type 0
AreShort phase catalog = Each (λ m. IfSome (part_of phase m) (λ part. IsShortExpression part.expr)) catalog.modules

-- a part's expression and script are of its phase, and no longer than they may be; a script keeps the format's ranges, or has no blocks
pub record IsPartOf (phase : Phase) (part : Part) : Type 0 where
  pub expression : IsExpressionOf phase part.expr
  pub short : IsShortExpression part.expr
  pub script_phase : part.script.phase ≡ phase
  pub script : (part.script.blocks ≡ []) ⊎ IsInGrammar part.script
  pub script_len : length (script_bytes part.script) ≤ MOST_SCRIPT

-- a catalogue that keeps what images give: modules and volumes in order and in range, other bases, ranks and parts as they may be
pub record IsWellFormed (catalog : Catalog) : Type 0 where
  pub in_range : Each (λ m. m.volume < length catalog.volumes) catalog.modules
  pub in_order : Ordered Precedes catalog.modules
  pub parents : AreNumbered 0 catalog.volumes
  pub bases : Ordered (λ a b. a.base ≢ b.base) catalog.volumes
  pub ranks : Ordered RanksDiffer catalog.modules
  pub pei_ranks : Each (IsRankWithin Pei catalog) catalog.modules
  pub dxe_ranks : Each (IsRankWithin Dxe catalog) catalog.modules
  pub pei_parts : Each (λ m. IfSome m.pei (IsPartOf Pei)) catalog.modules
  pub dxe_parts : Each (λ m. IfSome m.dxe (IsPartOf Dxe)) catalog.modules
  pub few_volumes : length catalog.volumes ≤ MOST_VOLUMES
  pub few_modules : length catalog.modules ≤ MOST_MODULES

-- A row of the table of small packs, and what it claims.
use Rattle.std.specs.Prelude.{◌≡◌, List, [], ◌∷◌, ◌++◌, map, ℕ, length}
use Rattle.std.proofs.Math.Option.{Option, none, some}
use Rattle.definition.specs.Pack.{Term, Pack}
use Rattle.definition.specs.Frame.{right, within, Read, fine, refuse, records, ◌>>=◌ as ◌>>=f◌}
use Rattle.definition.specs.Run.{◌>>=◌ as ◌>>=r◌}
use Rattle.definition.specs.Parse.{kinds, take_record}
use Rattle.definition.specs.Answer.{answer, Lent, lengths}
use Rattle.definition.specs.Check.{cert_check}
use Rattle.definition.specs.Store.{nothing}
use Rattle.definition.specs.Keys.{Keyed, cut_key}
use Rattle.definition.specs.Graph.{Vertex, Graph, Unified, unify, up_to}
use Rattle.definition.specs.Classes.{mark}
use Rattle.definition.specs.Figures.{slot, in_slot}
use Rattle.definition.specs.Open.{at}
use Rattle.definition.specs.Calls.{Left, cert_classes, cert_show}
use Rattle.definition.specs.Ascii.{bytes}
use Rattle.definition.specs.Rows.Say.{sort, symbol, rule, node, step, goal, result, cut, abstract, nested, times}
use Rattle.definition.specs.declared.Refusal.{Refusal}
use Rattle.definition.specs.declared.Answer.{Answer}
use Rattle.definition.specs.declared.Figures.{Figures}

pub data Row : Type 0 where
  -- a pack and a length of work, and what check returns
  check : List ℕ → ℕ → ℕ → ℕ → Row
  -- lent lengths, and what they alone give
  lent : Lent → ℕ → ℕ → Row
  -- bytes at an offset, behind what was read up to a kind, and what reading on gives
  reading : Pack → ℕ → ℕ → List ℕ → ℕ → ℕ → Row
  -- a pack and the lengths of class, pattern, graph and work, and what classes returns
  classes : List ℕ → ℕ → ℕ → ℕ → ℕ → ℕ → ℕ → Row
  -- a pack, the cells of its largest graph, its class words, pattern words and figures; the buffers are just long enough
  built : List ℕ → ℕ → List ℕ → List ℕ → List ℕ → Row
  -- a pack, two budgets, and the text shown
  shown : List ℕ → ℕ → ℕ → List ℕ → Row
  -- instance counts, the slot of each, and the four figures of classes with these counts
  slotted : List ℕ → List ℕ → List ℕ → Row
  -- a graph and two nodes: 1, the pairs taken and each node's link, or 0 and the pairs taken up to the clash
  unified : Graph → ℕ → ℕ → List ℕ → Row
  -- a term, record 9's constructor and position, and a mark for each variable
  opened : Term → ℕ → ℕ → List ℕ → Row

unfoldable pub refusal : {A : Type 0} → Read A → Option Refusal
refusal (fine a) = none
refusal (refuse r) = some r

abbrev numbers : Answer → List ℕ
numbers a = a.code ∷ a.place ∷ []

-- all thirteen figures
abbrev pub figure_words : Figures → List ℕ
figure_words f = f.steps ∷ f.classes ∷ f.ground_nodes ∷ f.pattern_nodes ∷ f.class_vars ∷ f.flex_vars ∷ f.fixed_vars ∷ f.subst_entries ∷ f.subst_renamings ∷ f.single ∷ f.few ∷ f.tens ∷ f.hundreds ∷ []

-- a class of this count
abbrev of_count : ℕ → Keyed
of_count n = record { key = cut_key 0; first = 0; count = n }

unfoldable pub link_word : Option ℕ → ℕ
link_word none = nothing
link_word (some x) = x

unfoldable pub unified_words : Unified → List ℕ
unfolding link_word
unified_words u = elim u.graph [ none ↦ 0 ∷ u.taken ∷ [] | some g ↦ 1 ∷ u.taken ∷ map (λ (v : Vertex). link_word v.link) g ]

abbrev all_of : Left → List ℕ
all_of l = numbers l.returned ++ (l.class ++ (l.pattern ++ figure_words l.figures))

-- what a row's call gives
unfoldable pub seen : Row → List ℕ
unfolding ◌>>=f◌ ◌>>=r◌ right within answer lengths cert_check cert_classes cert_show records kinds take_record refusal slot in_slot unify unified_words up_to mark at bytes sort symbol rule node step goal result cut abstract nested times
seen (check pack work code place) = numbers (cert_check pack work).returned
seen (lent l code place) = numbers (answer (lengths l))
seen (reading P last at s code place) = numbers (answer (refusal (records kinds take_record s 0 at last P)))
seen (classes pack class pattern graph work code place) = numbers (cert_classes pack class pattern graph work).returned
seen (built pack cells class pattern figures) = all_of (cert_classes pack (length class) (length pattern) cells 100000)
seen (shown pack budget value text) = (cert_show pack budget value 1000 1000 1000 100000 (length text)).text
seen (slotted counts slots figures) = map slot counts ++ map (in_slot (map of_count counts)) (0 ∷ 1 ∷ 2 ∷ 3 ∷ [])
seen (unified g x y words) = unified_words (unify g x y)
seen (opened t c i marks) = map (λ (k : ℕ). mark (at c i k t)) (up_to (length marks))

-- what a row says of it
abbrev pub said : Row → List ℕ
said (check pack work code place) = code ∷ place ∷ []
said (lent l code place) = code ∷ place ∷ []
said (reading P last at s code place) = code ∷ place ∷ []
said (classes pack class pattern graph work code place) = code ∷ place ∷ []
said (built pack cells class pattern figures) = (0 ∷ 0 ∷ []) ++ (class ++ (pattern ++ figures))
said (shown pack budget value text) = text
said (slotted counts slots figures) = slots ++ figures
said (unified g x y words) = words
said (opened t c i marks) = marks

abbrev pub Claim : Row → Type 0
Claim r = seen r ≡ said r

-- every row holds
abbrev pub Holds : List Row → Type 0
Holds [] = Unit {0}
Holds (r ∷ rs) = Claim r × Holds rs

-- What a run that makes a class comes to: it is made and all stands with it, or the run is refused.
use Rattle.std.specs.Prelude.{◌≡◌, List, [], ◌∷◌, ◌++◌, ℕ, ◌+◌, ◌≤◌, length}
use Rattle.std.proofs.Common.{sym, ◌∙◌, arith}
use Rattle.definition.specs.Pack.{Pack}
use Rattle.definition.specs.Classes.{Class, Built}
use Rattle.definition.specs.Figures.{class_vars_of, flex_vars_of}
use Rattle.definition.specs.Frame.{fine, refuse}
use Rattle.definition.specs.Answer.{Lent}
use Rattle.definition.specs.Run.{Run, outcome}
use Rattle.definition.specs.declared.Refusal.{Refusal}
use Rattle.theory.specs.Patterns.Interned.{Grows}
use Rattle.memo.specs.declared.memo.Memo.{Memo}
use Rattle.store.specs.declared.nodes.Store.{Store}
use Rattle.pack_tables.specs.declared.catalog.Catalog.{Catalog}
use Rattle.class_keys.specs.declared.classes.Keying.{Keying}
use Rattle.class_keys.specs.declared.classes.Counts.{Counts as KeyCounts}
use Rattle.class_premises.specs.declared.layout.Layout.{Layout}
use Rattle.class_premises.specs.Standing.{Standing}
use Rattle.class_premises.specs.declared.building.Counted.{Counted}

-- these buffers are lent
pub record Lends (L : Lent) (class words cells : List ℕ) : Type 0 where
  pub class_long : L.class ≡ length class
  pub words_long : L.pattern ≡ length words
  pub cells_long : L.graph ≡ length cells

-- what figures count of a class is no more than n
pub record Few (n : ℕ) (f : Counted) : Type 0 where
  pub vars : f.vars ≤ n
  pub flex : f.flex ≤ f.vars
  pub fixed : f.fixed ≤ n
  pub entries : f.entries ≤ n
  pub renamings : f.renamings ≤ f.entries

-- the run makes a class, these figures count of it, and all stands with it
pub record Done (class words cells bytes work' class' words' cells' : List ℕ) (c : Catalog) (k : Keying) (l : Layout) (r : KeyCounts) (st' : Store) (memo' : Memo) (fill' : ℕ) (f : Counted) (P : Pack) (b : Built) (run : Run Built) : Type 0 where
  pub built : Built
  pub standing : Standing bytes work' class' words' cells' c k l r st' memo' fill' P built
  pub is : (L : Lent) → Lends L class words cells → outcome L run ≡ fine built
  pub longer : length built.classes ≡ length b.classes + 1
  pub made : Class
  pub last : built.classes ≡ b.classes ++ (made ∷ [])
  pub grows : Grows b.store built.store
  pub few : Few (length cells) f
  pub vars : class_vars_of made ≡ f.vars
  pub flex : flex_vars_of made ≡ f.flex
  pub fixed : made.fixed ≡ f.fixed
  pub entries : made.entries ≡ f.entries
  pub renamings : made.renamings ≡ f.renamings

-- the run is refused
abbrev pub Refused : List ℕ → List ℕ → List ℕ → Run Built → Refusal → Type 0
Refused class words cells run x = (L : Lent) → Lends L class words cells → outcome L run ≡ refuse x

-- one run comes to what another does, by other cells, as many
module _ (class words cells cells₁ : List ℕ) (long : length cells₁ ≡ length cells) (run run₁ : Run Built) (same : (L : Lent) → L.graph ≡ length cells → outcome L run ≡ outcome L run₁) where
  -- these are lent then
  lends : (L : Lent) → Lends L class words cells → Lends L class words cells₁
  lends L e = record { class_long = e.class_long; words_long = e.words_long; cells_long = e.cells_long ∙ sym long }

  -- the class is made
  pub done-same : (bytes work' class' words' cells' : List ℕ) (c : Catalog) (k : Keying) (l : Layout) (r : KeyCounts) (st' : Store) (memo' : Memo) (fill' : ℕ) (f : Counted) (P : Pack) (b : Built)
      → Done class words cells₁ bytes work' class' words' cells' c k l r st' memo' fill' f P b run₁ → Done class words cells bytes work' class' words' cells' c k l r st' memo' fill' f P b run
  done-same bytes work' class' words' cells' c k l r st' memo' fill' f P b D = record {
    built = D.built;
    standing = D.standing;
    is = λ L e. same L e.cells_long ∙ D.is L (lends L e);
    longer = D.longer;
    made = D.made;
    last = D.last;
    grows = D.grows;
    few = record {
      vars = omega (arith, D.few.vars, long);
      flex = D.few.flex;
      fixed = omega (arith, D.few.fixed, long);
      entries = omega (arith, D.few.entries, long);
      renamings = D.few.renamings;
    };
    vars = D.vars;
    flex = D.flex;
    fixed = D.fixed;
    entries = D.entries;
    renamings = D.renamings;
  }

  -- it is refused
  pub refused-same : (x : Refusal) → Refused class words cells₁ run₁ x → Refused class words cells run x
  refused-same x R L e = same L e.cells_long ∙ R L (lends L e)

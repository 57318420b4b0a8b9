-- Where the goals' instance test has its tables.
use Rattle.std.specs.Prelude.{List, ℕ, ◌+◌, ◌*◌, ◌<◌, length}
use Rattle.store.specs.declared.nodes.Store.{Store}
use Rattle.class_premises.specs.declared.layout.Layout.{Layout}
use Rattle.term_instance.specs.declared.tables.Instance.{Instance}

-- behind the store's index: pairs for its words, a memo of its nodes and one of as many variables as there can be
abbrev pub test_tables : ℕ → Layout → Store → Instance
test_tables n l st = record {
  index = l.lifted + 3 * l.nodes;
  pairs = l.copied;
  seen = l.copied + 2 * st.used;
  values = l.copied + 2 * st.used + 2 * st.len;
  end = l.copied + 2 * st.used + 2 * st.len + 2 * (n + 16);
}

-- their places are words
abbrev pub Spacious : List ℕ → Layout → Store → Type 0
Spacious cells l st = (l.lifted + 3 * l.nodes < 18446744073709551616) × (l.copied + 2 * st.used + 2 * st.len + 2 * (length cells + 16) < 18446744073709551616)

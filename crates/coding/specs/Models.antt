-- Models or a path as three byte strings: sizes and weights are items of two bytes, losses items of eight.
use Rattle.std.specs.Prelude.{refl, List, ℕ}
use Rattle.path.specs.Model.{Lists, lists}
use Rattle.coding.specs.Coding.{Coding, unsigneds, ◌⊗◌, Names, named}

-- The strings, or the numbers that they hold, stand in the order in which every call takes them.
abbrev pub list_names : Names Lists (List ℕ × (List ℕ × List ℕ))
list_names =
    record {
      in_order = λ x. (x.sizes, (x.losses, x.weights));
      by_name = λ (sizes, (losses, weights)). lists sizes losses weights;
      same_order = λ x. refl;
      same_names = λ x. refl;
    }

abbrev pub models_coding : Coding
models_coding = named (unsigneds 2 ⊗ unsigneds 8 ⊗ unsigneds 2) list_names list_names

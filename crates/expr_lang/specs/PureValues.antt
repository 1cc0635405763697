-- Pure values: what a value of the program is, without cells and places.
use Rattle.std.specs.Prelude.{ℕ, ℤ, pos, List, [], ◌∷◌, Bool, false, slice_get, unwrap_or}
use Rattle.value_store.specs.Maps.{Entry}

-- a value, and a list of them
mutual
  pub data PureValue : Type 0 where
    int : ℤ → PureValue
    bool : Bool → PureValue
    text : List ℕ → PureValue
    map_of : List Entry → PureValue
    token : ℕ → PureValue
    source : ℕ → PureValue
    node : ℕ → PureValues → PureValues → PureValue

  pub data PureValues : Type 0 where
    no_pure : PureValues
    and_pure : PureValue → PureValues → PureValues

-- the number of an int, else 0
abbrev pub int_in : PureValue → ℤ
int_in (int z) = z
int_in _ = pos 0

-- the truth of a bool, else false
abbrev pub bool_in : PureValue → Bool
bool_in (bool b) = b
bool_in _ = false

-- the bytes of a text, else none
abbrev pub text_in : PureValue → List ℕ
text_in (text bytes) = bytes
text_in _ = []

-- the entries of a map, newest first, else none
abbrev pub map_in : PureValue → List Entry
map_in (map_of es) = es
map_in _ = []

-- the number of a token, else 0
abbrev pub token_in : PureValue → ℕ
token_in (token k) = k
token_in _ = 0

-- the value at a place, else the int 0
abbrev pub nth : List PureValue → ℕ → PureValue
nth vs i = unwrap_or (slice_get vs i) (int (pos 0))

-- of the items of a node, those that are nodes, and the others
abbrev pub nodes_in : List PureValue → PureValues
nodes_in [] = no_pure
nodes_in (node ty children fields ∷ vs) = and_pure (node ty children fields) (nodes_in vs)
nodes_in (_ ∷ vs) = nodes_in vs

-- the values among these that aren't nodes, in their order: the fields of a maker
abbrev pub others_in : List PureValue → PureValues
others_in [] = no_pure
others_in (node ty children fields ∷ vs) = others_in vs
others_in (v ∷ vs) = and_pure v (others_in vs)

-- A key as five words: the parent inode and the sixteen name bytes, four to a word.
use Rattle.std.specs.Prelude.{List, [], ◌∷◌, Bool, true, false, ◌&&◌, ℕ, eqb}
use Rattle.words.specs.Word.{word}
use Rattle.tree_key.specs.declared.SaveExtKey.{SaveExtKey}

-- the key that an entry's bytes begin with
abbrev pub key_of : List ℕ → List ℕ
key_of entry = word entry 0 ∷ word entry 4 ∷ word entry 8 ∷ word entry 12 ∷ word entry 16 ∷ []

-- the key of a parent and a name of sixteen bytes
abbrev pub name_key : ℕ → List ℕ → List ℕ
name_key parent name = parent ∷ word name 0 ∷ word name 4 ∷ word name 8 ∷ word name 12 ∷ []

-- the words of a key that the code holds
abbrev pub key_words : SaveExtKey → List ℕ
key_words k = k.parent ∷ k.name0 ∷ k.name1 ∷ k.name2 ∷ k.name3 ∷ []

-- whether two keys are the same, word by word
abbrev pub same_key : List ℕ → List ℕ → Bool
same_key [] [] = true
same_key [] (b ∷ l) = false
same_key (a ∷ k) [] = false
same_key (a ∷ k) (b ∷ l) = eqb a b && same_key k l

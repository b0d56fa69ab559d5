-- What the definitions of files give: each law is the contract of a function of `laws`.
use Rattle.std.specs.Prelude.{◌≡◌, ℕ, ◌≤◌, ◌++◌, List, map}
use Rattle.cmd_text.specs.Grammar.{line_text, make_text}
use Rattle.cmd_text.specs.Files.{make_list, laid_out, IsFile, IsFirstBad}
use Rattle.cmd_text.specs.Past.{IsFirstPast}
use Rattle.cmd_text.specs.declared.script.Script.{Script}

-- a text is the file of one script
abbrev pub FilesHaveOneScript : Type 0
FilesHaveOneScript = (text : List ℕ) (s t : Script) → IsFile text s → IsFile text t → s ≡ t

-- it has one first bad line
abbrev pub BadTextsHaveOneLine : Type 0
BadTextsHaveOneLine = (text : List ℕ) (m n : ℕ) → IsFirstBad text m → IsFirstBad text n → m ≡ n

-- and is never both
abbrev pub FilesAreNotBad : Type 0
FilesAreNotBad = (text : List ℕ) (s : Script) (n : ℕ) → IsFile text s → IsFirstBad text n → ⊥

-- nor neither
abbrev pub TextsAreOneOfBoth : Type 0
TextsAreOneOfBoth = (text : List ℕ) → ((s : Script) → IsFile text s → ⊥) → ((n : ℕ) → IsFirstBad text n → ⊥) → ⊥

-- the text of a script: its commands, or its make line, each in the line that it has, and nothing else
abbrev pub script_text : Script → List ℕ
script_text s = laid_out 1 (map (λ c. (c.line, line_text c)) s.commands ++ map (λ m. (m.line, make_text m)) (make_list s.make))

-- a script that was read is written out so that it is read again
abbrev pub ScriptsAreReadAgain : Type 0
ScriptsAreReadAgain = (text : List ℕ) (s : Script) → IsFile text s → IsFile (script_text s) s

-- over at most 20 metaslabs no file has a command past the limit of commands times metaslabs
abbrev pub FilesAreFewForFewMetaslabs : Type 0
FilesAreFewForFewMetaslabs = (text : List ℕ) (s : Script) → IsFile text s → (metaslabs line : ℕ) → metaslabs ≤ 20 → IsFirstPast s metaslabs line → ⊥

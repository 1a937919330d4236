-- Lines at the two ends of each range, and lines past one of them.
use Rattle.std.specs.Prelude.{ℕ, List, [], ◌∷◌, codes}
use Rattle.line_text.specs.Words.{words_of}
use Rattle.conf_lines.specs.declared.item.What.{What}
use Rattle.conf_lines.specs.declared.statement.Form.{Form}
use Rattle.conf_grammar.specs.Rows.{SaysNothing}
use Rattle.conf_grammar.specs.Spells.{Spells}

-- each of these lines spells a statement of this form, and none of these does
abbrev pub AllSpell : Form → List (List ℕ) → Type 0
AllSpell form [] = Unit {0}
AllSpell form (line ∷ lines) = ((says : List What) × Spells form (words_of line) says) × AllSpell form lines

abbrev pub NoneSpells : Form → List (List ℕ) → Type 0
NoneSpells form [] = Unit {0}
NoneSpells form (line ∷ lines) = SaysNothing (Spells form) line × NoneSpells form lines

-- an interface
abbrev pub interface_ends : List (List ℕ)
interface_ends =
    codes "interface if0 bandwidth 1000 hfsc"
    ∷ codes "interface if0 bandwidth 1000G hfsc"
    ∷ codes "interface nnnnnnnnnnnnnnnnnnnnnnnnnnnnnnnnnnnnnnnnnnnnnnnnnnnnnnnnnnnnnnnn hfsc"
    ∷ []

abbrev pub interface_past : List (List ℕ)
interface_past =
    codes "interface if0 bandwidth 999 hfsc"
    ∷ codes "interface if0 bandwidth 1000000000001 hfsc"
    ∷ codes "interface nnnnnnnnnnnnnnnnnnnnnnnnnnnnnnnnnnnnnnnnnnnnnnnnnnnnnnnnnnnnnnnnn hfsc"
    ∷ []

-- a class of HFSC
abbrev pub hfsc_ends : List (List ℕ)
hfsc_ends =
    codes "class hfsc if0 a r sc 0 0 1 rt 0 0 0 ls 0 0 1 ul 1000 0 1000 pshare 1 grate 0 qlimit 1"
    ∷ codes "class hfsc if0 a r sc 1000G 1000000 1000G rt 1000G 1000000 1000G ls 1000G 1000000 1000G ul 1000G 1000000 1000G pshare 100 grate 1000G qlimit 10000"
    ∷ codes "class hfsc if0 a r sc 1 0 2"
    ∷ codes "class hfsc if0 a r sc 0 1 2"
    ∷ codes "class hfsc if0 a r sc 2 1 2"
    ∷ []

abbrev pub hfsc_past : List (List ℕ)
hfsc_past =
    codes "class hfsc if0 a r sc 1000000000001 0 1"
    ∷ codes "class hfsc if0 a r sc 0 1000001 1"
    ∷ codes "class hfsc if0 a r sc 0 0 1000000000001"
    ∷ codes "class hfsc if0 a r sc 0 0 0"
    ∷ codes "class hfsc if0 a r sc 1 1 2"
    ∷ codes "class hfsc if0 a r pshare 1 rt 1000000000001 0 0"
    ∷ codes "class hfsc if0 a r pshare 1 rt 0 1000001 0"
    ∷ codes "class hfsc if0 a r pshare 1 rt 0 0 1000000000001"
    ∷ codes "class hfsc if0 a r pshare 1 rt 1 1 2"
    ∷ codes "class hfsc if0 a r ls 1000000000001 0 1"
    ∷ codes "class hfsc if0 a r ls 0 1000001 1"
    ∷ codes "class hfsc if0 a r ls 0 0 1000000000001"
    ∷ codes "class hfsc if0 a r ls 0 0 0"
    ∷ codes "class hfsc if0 a r ls 1 1 2"
    ∷ codes "class hfsc if0 a r pshare 1 ul 999 0 1000"
    ∷ codes "class hfsc if0 a r pshare 1 ul 1000000000001 0 1000"
    ∷ codes "class hfsc if0 a r pshare 1 ul 1000 1000001 1000"
    ∷ codes "class hfsc if0 a r pshare 1 ul 1000 0 999"
    ∷ codes "class hfsc if0 a r pshare 1 ul 1000 0 1000000000001"
    ∷ codes "class hfsc if0 a r pshare 1 ul 1000 1 1001"
    ∷ codes "class hfsc if0 a r pshare 0"
    ∷ codes "class hfsc if0 a r pshare 101"
    ∷ codes "class hfsc if0 a r pshare 1 grate 1000000000001"
    ∷ codes "class hfsc if0 a r pshare 1 qlimit 0"
    ∷ codes "class hfsc if0 a r pshare 1 qlimit 10001"
    ∷ []

-- a class of CBQ
abbrev pub cbq_ends : List (List ℕ)
cbq_ends =
    codes "class cbq if0 a r pbandwidth 0 exactbandwidth 1000 priority 0 maxburst 1 packetsize 1 qlimit 1"
    ∷ codes "class cbq if0 a r pbandwidth 100 exactbandwidth 1000G priority 7 maxburst 1000 packetsize 262144 qlimit 10000"
    ∷ []

abbrev pub cbq_past : List (List ℕ)
cbq_past =
    codes "class cbq if0 a r exactbandwidth 999"
    ∷ codes "class cbq if0 a r exactbandwidth 1000000000001"
    ∷ codes "class cbq if0 a r pbandwidth 101"
    ∷ codes "class cbq if0 a r pbandwidth 1 priority 8"
    ∷ codes "class cbq if0 a r pbandwidth 1 maxburst 0"
    ∷ codes "class cbq if0 a r pbandwidth 1 maxburst 1001"
    ∷ codes "class cbq if0 a r pbandwidth 1 packetsize 0"
    ∷ codes "class cbq if0 a r pbandwidth 1 packetsize 262145"
    ∷ codes "class cbq if0 a r pbandwidth 1 qlimit 0"
    ∷ codes "class cbq if0 a r pbandwidth 1 qlimit 10001"
    ∷ []

-- a filter
abbrev pub filter_ends : List (List ℕ)
filter_ends =
    codes "filter if0 a ruleno 0 0 0 0 0 0 tos 0 tosmask 0"
    ∷ codes "filter if0 a ruleno 4294967295 0 65535 0 65535 255 tos 255 tosmask 255"
    ∷ []

abbrev pub filter_past : List (List ℕ)
filter_past =
    codes "filter if0 a ruleno 4294967296 0 0 0 0 0"
    ∷ codes "filter if0 a 0 65536 0 0 0"
    ∷ codes "filter if0 a 0 0 0 65536 0"
    ∷ codes "filter if0 a 0 0 0 0 256"
    ∷ codes "filter if0 a 0 0 0 0 0 tos 256"
    ∷ codes "filter if0 a 0 0 0 0 0 tos 0 tosmask 256"
    ∷ []

-- a filter6
abbrev pub filter6_ends : List (List ℕ)
filter6_ends =
    codes "filter6 if0 a ruleno 0 ::/0 0 ::/0 0 0 tclass 0 tclassmask 0"
    ∷ codes "filter6 if0 a ruleno 4294967295 ::/128 65535 ::/128 65535 255 tclass 255 tclassmask 255"
    ∷ []

abbrev pub filter6_past : List (List ℕ)
filter6_past =
    codes "filter6 if0 a ruleno 4294967296 0 0 0 0 0"
    ∷ codes "filter6 if0 a ::/129 0 0 0 0"
    ∷ codes "filter6 if0 a 0 65536 0 0 0"
    ∷ codes "filter6 if0 a 0 0 ::/129 0 0"
    ∷ codes "filter6 if0 a 0 0 0 65536 0"
    ∷ codes "filter6 if0 a 0 0 0 0 256"
    ∷ codes "filter6 if0 a 0 0 0 0 0 tclass 256"
    ∷ codes "filter6 if0 a 0 0 0 0 0 tclass 0 tclassmask 256"
    ∷ []

-- a conditioner
abbrev pub conditioner_ends : List (List ℕ)
conditioner_ends =
    codes "conditioner if0 a srtcm 1000 1 0 1"
    ∷ codes "conditioner if0 a srtcm 1000G 1073741824 1073741824 4"
    ∷ codes "conditioner if0 a trtcm 1000 1 1000 1 1"
    ∷ codes "conditioner if0 a trtcm 1000G 1073741824 1000G 1073741824 4"
    ∷ []

abbrev pub conditioner_past : List (List ℕ)
conditioner_past =
    codes "conditioner if0 a srtcm 999 1 0 1"
    ∷ codes "conditioner if0 a srtcm 1000000000001 1 0 1"
    ∷ codes "conditioner if0 a srtcm 1000 0 0 1"
    ∷ codes "conditioner if0 a srtcm 1000 1073741825 0 1"
    ∷ codes "conditioner if0 a srtcm 1000 1 1073741825 1"
    ∷ codes "conditioner if0 a srtcm 1000 1 0 0"
    ∷ codes "conditioner if0 a srtcm 1000 1 0 5"
    ∷ codes "conditioner if0 a trtcm 999 1 999 1 1"
    ∷ codes "conditioner if0 a trtcm 1000000000001 1 1000 1 1"
    ∷ codes "conditioner if0 a trtcm 1000 0 1000 1 1"
    ∷ codes "conditioner if0 a trtcm 1000 1073741825 1000 1 1"
    ∷ codes "conditioner if0 a trtcm 1000 1 999 1 1"
    ∷ codes "conditioner if0 a trtcm 1000 1 1001 1 1"
    ∷ codes "conditioner if0 a trtcm 1000 1 1000 0 1"
    ∷ codes "conditioner if0 a trtcm 1000 1 1000 1073741825 1"
    ∷ codes "conditioner if0 a trtcm 1000 1 1000 1 5"
    ∷ []

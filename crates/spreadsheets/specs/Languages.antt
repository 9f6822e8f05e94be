-- Document 02, A5: what a file is. RFC 4180's grammar, and what is asked of a file beyond it.
use Rattle.std.specs.Prelude.{List, [], ◌∷◌}
use Rattle.patterns.specs.Patterns.{Range, ◌to◌, Pattern, one, ◌·◌, ◌∣◌, many, byte, word, optional, up_to}

-- ---- RFC 4180, section 2: "TEXTDATA = %x20-21 / %x23-2B / %x2D-7E"

abbrev pub text_bytes : List Range
text_bytes = 0x20 to 0x21 ∷ 0x23 to 0x2B ∷ 0x2D to 0x7E ∷ []

abbrev pub textdata : Pattern
textdata = one text_bytes

abbrev pub dquote : Pattern
dquote = byte 0x22

abbrev pub comma : Pattern
comma = byte 0x2C

abbrev pub cr : Pattern
cr = byte 0x0D

abbrev pub lf : Pattern
lf = byte 0x0A

-- "CRLF or LF line ends"
abbrev pub newline : Pattern
newline = lf ∣ cr · lf

-- "escaped = DQUOTE *(TEXTDATA / COMMA / CR / LF / 2DQUOTE) DQUOTE"
abbrev pub escaped : Pattern
escaped = dquote · many (textdata ∣ comma ∣ cr ∣ lf ∣ dquote · dquote) · dquote

-- "field = (escaped / non-escaped)", "non-escaped = *TEXTDATA"
abbrev pub field : Pattern
field = escaped ∣ many textdata

-- "record = field *(COMMA field)"
abbrev pub fields : Pattern
fields = field · many (comma · field)

-- "the last record in the file may or may not have an ending line break"
abbrev pub last_line_end : Pattern
last_line_end = optional newline

-- "file = [header CRLF] record *(CRLF record) [CRLF]"
abbrev pub file : Pattern → Pattern → Pattern
file first other = first · many (newline · other) · last_line_end

-- well-formed CSV
unfoldable pub csv_file : Pattern
csv_file = file fields fields

-- ---- "The first record must be `period,mwh`", and "records of two fields"

-- "quoted fields .. included": as it stands, or in quotes
abbrev pub spelled : Pattern → Pattern
spelled p = p ∣ dquote · p · dquote

abbrev pub header : Pattern
header = spelled (word "period") · comma · spelled (word "mwh")

unfoldable pub table_file : Pattern
table_file = file header (field · comma · field)

-- ---- "period and MWh"

abbrev pub digit : Pattern
digit = one (0x30 to 0x39 ∷ [])

-- "Period is one or two digits."
abbrev pub period : Pattern
period = digit · optional digit

-- "MWh is an optional minus, one to five digits and an optional point with one to three digits"
abbrev pub mwh : Pattern
mwh = optional (word "-") · digit · up_to 4 digit · optional (word "." · digit · up_to 2 digit)

unfoldable pub number_file : Pattern
number_file = file header (spelled period · comma · spelled mwh)

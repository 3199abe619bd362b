pub mod PlainBoardFields

pub mod Words
pub mod MemberText
pub mod CommandText
pub mod ReplyText
pub mod EventText
pub mod RecordText
pub mod ReportText

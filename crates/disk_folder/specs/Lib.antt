pub mod FolderViews
